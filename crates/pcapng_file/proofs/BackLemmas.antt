-- The capture of packets is read as their records.
use Rattle.std.proofs.Common.{◌≡◌, ℕ, ◌+◌, ◌*◌, ◌/◌, ◌%◌, ◌≤◌, inl, inr, max, map, filter, subst, Bool, false, not, nat_lt, List, [], ◌∷◌, ◌++◌, length, append_assoc, refl, sym, ap, ◌∙◌, arith}
use Rattle.std.proofs.lemmas.Bool.{cases_Bool}
use Rattle.fab_base.specs.Layout.{little_endian, spelled_low}
use Rattle.fab_base.proofs.LayoutLemmas.{little_endian-spelled}
use Rattle.pcap_file.specs.Capture.{at_place, milliseconds, stored, Found, next, IsCapture}
use Rattle.pcap_file.specs.Records.{Chain, last_moment}
use Rattle.pcap_file.specs.declared.Record.{Record}
use Rattle.pcap_file.proofs.lemmas.Chains.{ends_as_capture}
use Rattle.pcap_file.proofs.lemmas.Written.{next_end, front_whole, head_read}
use Rattle.pcapng_file.specs.declared.NgRecord.{NgRecord}
use Rattle.pcapng_file.specs.File.{IsPacketKept, AreKept}
use Rattle.pcapng_file.specs.Classic.{recorded, Ascend, classic_front, classic_record, classic_records, classic_bytes, timed, written}

module _ (r : NgRecord) (kept : IsPacketKept r) where
  stored_is : stored written (classic_front r) ≡ length r.caught.bytes
  stored_is = let small = kept.stored in little_endian-spelled 4 (length r.caught.bytes) (omega arith)

  original_is : at_place false (classic_front r) 12 4 ≡ r.original
  original_is = let small = kept.original in little_endian-spelled 4 r.original (omega arith)

  moment_is : milliseconds written (classic_front r) ≡ r.moment
  moment_is =
      let below = kept.moment in
      let seconds : little_endian (spelled_low 4 (r.moment / 1000)) ≡ r.moment / 1000 = little_endian-spelled 4 (r.moment / 1000) (omega arith) in
      let micros : little_endian (spelled_low 4 (r.moment % 1000 * 1000)) ≡ r.moment % 1000 * 1000 = little_endian-spelled 4 (r.moment % 1000 * 1000) (omega arith) in
      (λ i. seconds i * 1000 + micros i / 1000) ∙ (let e : r.moment / 1000 * 1000 + r.moment % 1000 * 1000 / 1000 ≡ r.moment = omega arith in e)

  record_stands : (greatest : ℕ) (rest : List ℕ) → next written greatest (classic_record r ++ rest) ≡ Found (max greatest r.moment) r.caught rest
  record_stands greatest rest =
      ap (next written greatest) (append_assoc (classic_front r) r.caught.bytes rest)
      ∙ front_whole written greatest (classic_front r) (r.caught.bytes ++ rest) refl r.caught.bytes rest refl (sym stored_is) (let small = kept.stored in omega (arith, stored_is))
      ∙ (λ i. Found (max greatest (moment_is i)) (record { bytes = r.caught.bytes; whole = not (nat_lt (stored_is i) (original_is i)) }) rest)
      ∙ ap (λ (b : Bool). Found (max greatest r.moment) (record { bytes = r.caught.bytes; whole = b }) rest) (sym kept.whole)

-- the records stand one after another
chain : (greatest : ℕ) (v : List NgRecord) → AreKept v → Chain written greatest (timed greatest v) (classic_records v) []
chain greatest [] kept = refl
chain greatest (r ∷ v) kept = (classic_records v, record_stands r kept.0 greatest (classic_records v), chain (max greatest r.moment) v kept.1)

-- records of packets in order have their moments
pub timed_is : (greatest : ℕ) (v : List NgRecord) → Ascend greatest v → timed greatest v ≡ map recorded v
timed_is greatest [] up = refl
timed_is greatest (r ∷ v) up =
    let most : max greatest r.moment ≡ r.moment = let le = up.0 in omega arith in
    (λ i. record { moment = most i; caught = r.caught } ∷ timed (most i) v) ∙ ap (λ (rs : List Record). recorded r ∷ rs) (timed_is r.moment v up.1)

-- packets that a test picks are in order too, and keep what they keep
ascend_from : (before later : ℕ) (v : List NgRecord) → before ≤ later → Ascend later v → Ascend before v
ascend_from before later [] le up = tt
ascend_from before later (r ∷ v) le up = (omega (arith, up.0), up.1)

pub ascend_filter : (p : NgRecord → Bool) (before : ℕ) (v : List NgRecord) → Ascend before v → Ascend before (filter p v)
ascend_filter p before [] up = tt
ascend_filter p before (r ∷ v) up = elim (cases_Bool (p r)) [
  | inl e ↦ rw e (up.0, ascend_filter p r.moment v up.1)
  | inr e ↦ rw e (ascend_filter p before v (ascend_from before r.moment v up.0 up.1))
]

pub kept_filter : (p : NgRecord → Bool) (v : List NgRecord) → AreKept v → AreKept (filter p v)
kept_filter p [] kept = tt
kept_filter p (r ∷ v) kept = elim (cases_Bool (p r)) [
  | inl e ↦ rw e (kept.0, kept_filter p v kept.1)
  | inr e ↦ rw e (kept_filter p v kept.1)
]

pub read_back : (v : List NgRecord) → AreKept v → IsCapture written (timed 0 v) (classic_bytes v)
read_back v kept = ends_as_capture written (timed 0 v) (classic_bytes v) [] (head_read (classic_records v)) (chain 0 v kept) (next_end written (last_moment 0 (timed 0 v)))

pub ordered_back : (v : List NgRecord) → AreKept v → Ascend 0 v → IsCapture written (map recorded v) (classic_bytes v)
ordered_back v kept up = subst (λ (rs : List Record). IsCapture written rs (classic_bytes v)) (timed_is 0 v up) (read_back v kept)
