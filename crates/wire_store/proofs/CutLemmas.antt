-- A capture that comes in pieces is cut into the frames of its records.
use Rattle.std.proofs.Common.{◌≡◌, ℕ, ◌+◌, ◌-◌, ◌≤◌, ◌<◌, ◌^◌, Bool, true, false, ltb, if◌then◌else◌, List, [], ◌∷◌, ◌++◌, length, length-append, length-drop, take, drop, Some, None, refl, sym, ap, ◌∙◌, subst, inl, inr, arith}
use Rattle.std.proofs.lemmas.Bool.{le-ltb, ltb-false, cases_lt}
use Rattle.std.proofs.lemmas.List.{drop_at, drop-append-le, take-append-le}
use Rattle.std.proofs.Math.ListN.{drop_of_length-le}
use Rattle.std.proofs.Math.Seq.{drop-append-add}
use Rattle.fab_base.specs.Layout.{field, little_endian}
use Rattle.fab_base.proofs.LayoutLemmas.{little_endian-spelled, field-append}
use Rattle.pcap_file.specs.declared.Record.{Record}
use Rattle.pcap_file.specs.Capture.{record_front, head_bytes}
use Rattle.pcapng_file.specs.declared.NgRecord.{NgRecord}
use Rattle.pcapng_file.specs.File.{AreKept}
use Rattle.pcapng_file.specs.Classic.{classic_front, classic_records, classic_bytes}
use Rattle.wire_store.specs.Cut.{stored, first_frame, behind_first, Cuts, Wholes, Cutting, cutting, with_piece, Stands, frames_of, records_bytes, AllShort, caught_of}

-- ---- the first record

if_cases : (b c : Bool) (x f : List ℕ) → (if b then None else if c then None else Some x) ≡ Some f → (b ≡ false) × (c ≡ false) × (x ≡ f)
if_cases true c x f e = absurd (cc)
if_cases false true x f e = absurd (cc)
if_cases false false x f e = (refl, refl, cc)

pub record Whole (l f : List ℕ) : Type 0 where
  pub head : 16 ≤ length l
  pub room : 16 + stored l ≤ length l
  pub is : field l 16 (stored l) ≡ f

pub whole_of : (l f : List ℕ) → first_frame l ≡ Some f → Whole l f
whole_of l f e =
    let h = if_cases (ltb (length l) 16) (ltb (length l) (16 + stored l)) (field l 16 (stored l)) f e in
    record { head = ltb-false (length l) 16 h.0; room = ltb-false (length l) (16 + stored l) h.1; is = h.2 }

first_is : (l : List ℕ) → 16 + stored l ≤ length l → first_frame l ≡ Some (field l 16 (stored l))
first_is l le = (λ i. if le-ltb (length l) 16 (omega arith) i then None else if le-ltb (length l) (16 + stored l) le i then None else Some (field l 16 (stored l)))

field_front : (a p : List ℕ) (from count : ℕ) → from + count ≤ length a → field (a ++ p) from count ≡ field a from count
field_front a p from count le = ap (take count) (drop-append-le from a p (omega arith)) ∙ take-append-le count (drop from a) p (omega (arith, length-drop from a))

stored_front : (a p : List ℕ) → 16 ≤ length a → stored (a ++ p) ≡ stored a
stored_front a p le = ap little_endian (field_front a p 8 4 (omega arith))

first_more : (a p f : List ℕ) → first_frame a ≡ Some f → first_frame (a ++ p) ≡ Some f
first_more a p f e =
    let w = whole_of a f e in
    let s = stored_front a p w.head in
    first_is (a ++ p) (omega (arith, s, w.room, length-append a p)) ∙ ap (λ (g : List ℕ). Some g) (ap (field (a ++ p) 16) s ∙ field_front a p 16 (stored a) w.room ∙ w.is)

behind_more : (a p f : List ℕ) → first_frame a ≡ Some f → behind_first (a ++ p) ≡ behind_first a ++ p
behind_more a p f e =
    let w = whole_of a f e in
    ap (λ (n : ℕ). drop (16 + n) (a ++ p)) (stored_front a p w.head) ∙ drop-append-le (16 + stored a) a p w.room

-- ---- pieces

drop_both : (n : ℕ) (a p : List ℕ) → drop n (a ++ p) ≡ drop n a ++ drop (n - length a) p
drop_both n a p = elim (cases_lt (length a) n) [
  | inl lt ↦
      let e : length a + (n - length a) ≡ n = omega arith in
      ap (λ (m : ℕ). drop m (a ++ p)) (sym e) ∙ drop-append-add a p (n - length a) ∙ ap (λ (z : List ℕ). z ++ drop (n - length a) p) (sym (drop_of_length-le a {i = n} (omega arith)))
  | inr le ↦
      let e : n - length a ≡ 0 = omega arith in
      drop-append-le n a p le ∙ ap (λ (m : ℕ). drop n a ++ drop m p) (sym e)
]

cuts_more : (fs : List (List ℕ)) (a p rest : List ℕ) → Cuts fs a rest → Cuts fs (a ++ p) (rest ++ p)
cuts_more [] a p rest e = ap (λ (z : List ℕ). z ++ p) e
cuts_more (f ∷ fs) a p rest h = (first_more a p f h.0, subst (λ (z : List ℕ). Cuts fs z (rest ++ p)) (sym (behind_more a p f h.0)) (cuts_more fs (behind_first a) p rest h.1))

pub cuts_one_more : (fs : List (List ℕ)) (a rest f : List ℕ) → Cuts fs a rest → first_frame rest ≡ Some f → Cuts (fs ++ f ∷ []) a (behind_first rest)
cuts_one_more [] a rest f e is = (ap first_frame e ∙ is, ap behind_first e)
cuts_one_more (g ∷ fs) a rest f h is = (h.0, cuts_one_more fs (behind_first a) rest f h.1 is)

pub stands_none : Stands [] [] (cutting 24 [])
stands_none = record { lacks = refl; cuts = refl }

pub stands_piece : (fs : List (List ℕ)) (l : List ℕ) (s : Cutting) (piece : List ℕ) → Stands fs l s → Stands fs (l ++ piece) (with_piece s piece)
stands_piece fs l s piece h = record {
  lacks = omega (arith, h.lacks, length-append l piece);
  cuts =
      subst (λ (z : List ℕ). Cuts fs z (s.held ++ drop s.lacks piece)) (ap (λ (n : ℕ). drop 24 l ++ drop n piece) h.lacks ∙ sym (drop_both 24 l piece)) (cuts_more fs (drop 24 l) (drop s.lacks piece) s.held h.cuts);
}

pub stands_given : (fs : List (List ℕ)) (l : List ℕ) (s : Cutting) (f : List ℕ) → Stands fs l s → first_frame s.held ≡ Some f → Stands (fs ++ f ∷ []) l (cutting s.lacks (behind_first s.held))
stands_given fs l s f h is = record { lacks = h.lacks; cuts = cuts_one_more fs (drop 24 l) s.held f h.cuts is }

-- ---- one list of frames

cuts_front : (fs gs : List (List ℕ)) (a p r q : List ℕ) → Cuts fs a r → Cuts gs (a ++ p) q → first_frame q ≡ None → (hs : List (List ℕ)) × (fs ++ hs ≡ gs)
cuts_front [] gs a p r q h k none = (gs, refl)
cuts_front (f ∷ fs) [] a p r q h k none = let no : Some f ≡ None = sym (first_more a p f h.0) ∙ ap first_frame k ∙ none in absurd (cc)
cuts_front (f ∷ fs) (g ∷ gs) a p r q h k none =
    let both : Some f ≡ Some g = sym (first_more a p f h.0) ∙ k.0 in
    let same : f ≡ g = cc in
    let more = cuts_front fs gs (behind_first a) p r q h.1 (subst (λ (z : List ℕ). Cuts gs z q) (behind_more a p f h.0) k.1) none in
    (more.0, (λ i. same i ∷ more.1 i))

cuts_one : (fs gs : List (List ℕ)) (a r q : List ℕ) → Cuts fs a r → Cuts gs a q → first_frame r ≡ None → first_frame q ≡ None → fs ≡ gs
cuts_one [] [] a r q h k none last = refl
cuts_one [] (g ∷ gs) a r q h k none last = let bad : Some g ≡ None = sym k.0 ∙ ap first_frame h ∙ none in absurd (cc)
cuts_one (f ∷ fs) [] a r q h k none last = let bad : Some f ≡ None = sym h.0 ∙ ap first_frame k ∙ last in absurd (cc)
cuts_one (f ∷ fs) (g ∷ gs) a r q h k none last =
    let both : Some f ≡ Some g = sym h.0 ∙ k.0 in
    let same : f ≡ g = cc in
    (λ i. same i ∷ cuts_one fs gs (behind_first a) r q h.1 k.1 none last i)

pub wholes_one : (fs gs : List (List ℕ)) (l : List ℕ) → Wholes fs l → Wholes gs l → fs ≡ gs
wholes_one fs gs l a b = cuts_one fs gs (drop 24 l) a.rest b.rest a.cuts b.cuts a.no_more b.no_more

pub wholes_front : (fs gs : List (List ℕ)) (l more : List ℕ) → Wholes fs l → Wholes gs (l ++ more) → (hs : List (List ℕ)) × (fs ++ hs ≡ gs)
wholes_front fs gs l more a b =
    cuts_front fs gs (drop 24 l) (drop (24 - length l) more) a.rest b.rest a.cuts (subst (λ (z : List ℕ). Cuts gs z b.rest) (drop_both 24 l more) b.cuts) b.no_more

-- ---- captures

module _ (front b rest : List ℕ) (size : length front ≡ 16) (is : stored (front ++ b ++ rest) ≡ length b) where
  record_first : first_frame (front ++ b ++ rest) ≡ Some b
  record_first =
      first_is (front ++ b ++ rest) (omega (arith, size, is, length-append (front ++ b) rest, length-append front b))
      ∙ ap (λ (f : List ℕ). Some f) (ap (field (front ++ b ++ rest) 16) is ∙ field-append front b rest 16 (length b) size refl)

  record_behind : behind_first (front ++ b ++ rest) ≡ rest
  record_behind = ap (λ (n : ℕ). drop (16 + n) (front ++ b ++ rest)) is ∙ drop_at (front ++ b) rest (16 + length b) (omega (arith, size, length-append front b))

records_cut : (rs : List Record) → AllShort rs → Cuts (frames_of rs) (records_bytes rs) []
records_cut [] short = refl
records_cut (r ∷ rs) short =
    let b = r.caught.bytes in
    let more = records_bytes rs in
    let front = record_front r.moment (length b) in
    let small : length b < 256 ^ 4 = let le = short.0 in omega arith in
    let is : stored (front ++ b ++ more) ≡ length b = little_endian-spelled 4 (length b) small in
    (record_first front b more refl is, subst (λ (z : List ℕ). Cuts (frames_of rs) z []) (sym (record_behind front b more refl is)) (records_cut rs short.1))

pub capture_cut : (rs : List Record) → AllShort rs → Wholes (frames_of rs) (head_bytes ++ records_bytes rs)
capture_cut rs short = record { rest = []; cuts = records_cut rs short; no_more = refl }

classic_cut : (v : List NgRecord) → AreKept v → Cuts (caught_of v) (classic_records v) []
classic_cut [] kept = refl
classic_cut (r ∷ v) kept =
    let b = r.caught.bytes in
    let more = classic_records v in
    let front = classic_front r in
    let small : length b < 256 ^ 4 = let le = kept.0.stored in omega arith in
    let is : stored (front ++ b ++ more) ≡ length b = little_endian-spelled 4 (length b) small in
    (record_first front b more refl is, subst (λ (z : List ℕ). Cuts (caught_of v) z []) (sym (record_behind front b more refl is)) (classic_cut v kept.1))

pub capture_of_packets_cut : (v : List NgRecord) → AreKept v → Wholes (caught_of v) (classic_bytes v)
capture_of_packets_cut v kept = record { rest = []; cuts = classic_cut v kept; no_more = refl }
