-- A loop that takes the records of a capture from a reader.
use Rattle.std.proofs.Common.{◌≡◌, ◌≢◌, ℕ, zero, suc, ◌+◌, ◌-◌, ◌^◌, ◌<◌, ◌≤◌, inl, inr, min, List, [], ◌∷◌, ◌++◌, length, length-append, length-drop, drop, Some, None, Ok, Err, IsTrue, refl, sym, ap, ◌∙◌, subst, arith}
use Rattle.fab_base.specs.Seen.{Seen, Keeps}
use Rattle.fab_base.specs.declared.values.Caught.{Caught}
use Rattle.pcap_file.specs.declared.Budget.{Budget}
use Rattle.pcap_file.specs.declared.CaptureHead.{CaptureHead}
use Rattle.pcap_file.specs.declared.CapError.TheVariants as errors
use Rattle.pcap_file.specs.declared.Record.{Record}
use Rattle.pcap_file.specs.Capture.{HEAD, Next, Found, End, next, records, records_from, IsCapture}
use Rattle.pcap_file.specs.Reading.{Reading, to_come, OpensReader, NextReads, reader_stand}
use Rattle.pcap_file.specs.Records.{Chain, last_moment, size_of, IsFault, Taken}
use Rattle.pcap_file.proofs.lemmas.Steps.{gives_found, ends_end, cut_fault, long_fault, bytes_passed, frames_passed}
use Rattle.pcap_file.proofs.lemmas.Chains.{found_stands, chain_push, last-push, size-push, ascends-push, chain_size, few, records_on, go_on, ends_as_capture, fault_is_no_capture, same_ok}

-- where a record stands, one is read
records_some : (n : ℕ) (h : CaptureHead) (g : ℕ) (l : List ℕ) (moment : ℕ) (caught : Caught) (rest : List ℕ) → 1 ≤ n → next h g l ≡ Found moment caught rest → 1 ≤ length (records_from n h g l)
records_some zero h g l moment caught rest le e = absurd (omega arith)
records_some (suc n) h g l moment caught rest le e = let one : length (records_from (suc n) h g l) ≡ suc (length (records_from n h moment rest)) = ap (λ (x : Next). length (go_on n h x)) e in omega arith

-- ---- the loop

pub taken_none : (slot : ℕ) (a b : Seen) (had left : Budget) (r : Reading) → OpensReader slot a b had left (Ok r) → Taken slot (a.left slot) [] b r
taken_none slot a b had left r o =
    let place : r.at ≡ 24 = o.begins.0 in
    record {
      fresh = o.begins.2;
      greatest = o.begins.1;
      ascends = tt;
      place = omega arith;
      chain = λ told. let h = o.head (subst IsTrue o.reads.keeps.told told) in (h.0, sym h.1);
    }

-- calls on other names change nothing of it
pub taken_stays : (slot : ℕ) (file : List ℕ) (rs : List Record) (name : List ℕ) (b c : Seen) (r : Reading) → Taken slot file rs b r → Keeps name b c → IsTrue (b.input slot) → b.name slot ≢ name → Taken slot file rs c r
taken_stays slot file rs name b c r t k is_in other = record {
  fresh = t.fresh;
  greatest = t.greatest;
  ascends = t.ascends;
  place = t.place;
  chain = λ told.
      let h = t.chain (subst IsTrue k.told told) in
      (h.0, subst (λ (l : List ℕ). Chain r.head 0 rs (drop HEAD file) (r.held ++ l)) (sym (k.left slot is_in other)) h.1);
}

module _ (slot : ℕ) (file : List ℕ) (rs : List Record) (b c : Seen) (r r' : Reading) (had left : Budget) (t : Taken slot file rs b r) where
  pub taken_more : (x : Record) → NextReads slot (reader_stand b r had) (reader_stand c r' left) (Ok (Some x)) → Taken slot file (rs ++ x ∷ []) c r'
  taken_more x n =
      let k = n.taken in
      let place : r'.at ≡ min (r.at + (16 + length x.caught.bytes)) (2 ^ 64 - 1) = ap (λ (q : Reading). q.at) k.moved in
      let greatest : r'.greatest ≡ x.moment = ap (λ (q : Reading). q.greatest) k.moved in
      let head : r'.head ≡ r.head = ap (λ (q : Reading). q.head) k.moved in
      let was = t.place in
      let sized = size-push rs x in
      record {
        fresh = ap (λ (q : Reading). q.kept) k.moved ∙ k.fresh;
        greatest = greatest ∙ sym (last-push 0 rs x);
        ascends = ascends-push 0 rs x t.ascends (subst (λ (m : ℕ). m ≤ x.moment) t.greatest k.onward);
        place = omega arith;
        chain = λ told.
            let told' : IsTrue b.told = subst IsTrue n.reads.keeps.told told in
            let h = t.chain told' in
            let found : next r.head r.greatest (to_come r b slot) ≡ Found x.moment x.caught (to_come r' c slot) = gives_found had r.at (next r.head r.greatest (to_come r b slot)) x.moment x.caught (to_come r' c slot) (n.says told' k.fresh) in (
              h.0 ∙ ap (λ (j : CaptureHead). Ok j) (sym head),
              subst (λ (j : CaptureHead). Chain j 0 (rs ++ x ∷ []) (drop HEAD file) (to_come r' c slot)) (sym head)
                  (chain_push r.head 0 rs x (drop HEAD file) (to_come r b slot) (to_come r' c slot) h.1 (ap (λ (g : ℕ). next r.head g (to_come r b slot)) (sym t.greatest) ∙ found)),
            );
      }

  module _ (told : IsTrue b.told) where
    at_last : (x : Next) → next r.head r.greatest (to_come r b slot) ≡ x → next r.head (last_moment 0 rs) (to_come r b slot) ≡ x
    at_last x e = ap (λ (g : ℕ). next r.head g (to_come r b slot)) (sym t.greatest) ∙ e

    pub taken_all : NextReads slot (reader_stand b r had) (reader_stand c r' left) (Ok None) → IsCapture r.head rs file
    taken_all n =
        let h = t.chain told in
        ends_as_capture r.head rs file (to_come r b slot) h.0 h.1 (at_last End (ends_end had r.at (next r.head r.greatest (to_come r b slot)) (n.says told t.fresh).0))

    no_capture : IsFault (next r.head r.greatest (to_come r b slot)) → (k : CaptureHead) (qs : List Record) → IsCapture k qs file → ⊥
    no_capture f = let h = t.chain told in fault_is_no_capture r.head rs file (to_come r b slot) h.0 h.1 (subst IsFault (sym (at_last _ refl)) f)

    pub taken_cut : (at : ℕ) → NextReads slot (reader_stand b r had) (reader_stand c r' left) (Err (errors.Cut at)) → (k : CaptureHead) (qs : List Record) → IsCapture k qs file → ⊥
    taken_cut at n = no_capture (cut_fault had r.at (next r.head r.greatest (to_come r b slot)) at (n.says told t.fresh))

    pub taken_too_long : (at len : ℕ) → NextReads slot (reader_stand b r had) (reader_stand c r' left) (Err (errors.TooLong at len)) → (k : CaptureHead) (qs : List Record) → IsCapture k qs file → ⊥
    taken_too_long at len n = no_capture (long_fault had r.at (next r.head r.greatest (to_come r b slot)) at len (n.says told t.fresh))

    -- a limit of bytes is met only where no capture stands, or one with more bytes than those that were taken and those that are left
    pub taken_bytes : NextReads slot (reader_stand b r had) (reader_stand c r' left) (Err errors.Bytes) → (k : CaptureHead) (qs : List Record) → IsCapture k qs file → had.bytes + (HEAD + size_of rs) < length file
    taken_bytes n k qs is = elim (bytes_passed had r.at (next r.head r.greatest (to_come r b slot)) (n.says told t.fresh)) [
      | inr f ↦ absurd (no_capture f k qs is)
      | inl p ↦
          let stands = (found_stands r.head r.greatest (to_come r b slot) p.0 p.1 p.2 p.3).size in
          let chain = chain_size r.head 0 rs (drop HEAD file) (to_come r b slot) (t.chain told).1 in
          let over = p.4 in
          omega (arith, length-drop HEAD file)
    ]

    -- a limit of frames only where no capture stands, or one with more records
    pub taken_frames : NextReads slot (reader_stand b r had) (reader_stand c r' left) (Err errors.Frames) → (k : CaptureHead) (qs : List Record) → IsCapture k qs file → (had.frames ≡ 0) × (length rs < length qs)
    taken_frames n k qs is = elim (frames_passed had r.at (next r.head r.greatest (to_come r b slot)) (n.says told t.fresh)) [
      | inr f ↦ absurd (no_capture f k qs is)
      | inl p ↦
          let stands = (found_stands r.head r.greatest (to_come r b slot) p.0 p.1 p.2 p.3).size in
          let h = t.chain told in
          let chain = chain_size r.head 0 rs (drop HEAD file) (to_come r b slot) h.1 in
          let behind = length-drop HEAD file in
          let least = few rs in
          let room : length file ≡ length rs + (length file - length rs) = omega arith in
          let some : 1 ≤ length file - length rs = omega arith in
          let same : k ≡ r.head = same_ok k r.head file is.head h.0 in
          let all : qs ≡ rs ++ records_from (length file - length rs) r.head (last_moment 0 rs) (to_come r b slot) = sym is.says ∙ ap (λ (j : CaptureHead). records j file) same ∙ records_on (length file) (length file - length rs) r.head 0 rs (drop HEAD file) (to_come r b slot) room h.1 in
          let more = records_some (length file - length rs) r.head (last_moment 0 rs) (to_come r b slot) p.0 p.1 p.2 some (at_last (Found p.0 p.1 p.2) p.3) in
          (p.4, omega (arith, ap length all, length-append rs (records_from (length file - length rs) r.head (last_moment 0 rs) (to_come r b slot)), more))
    ]
