-- Pages that grow by records.
use Rattle.std.proofs.Common.{◌≡◌, ◌≢◌, ℕ, zero, suc, ◌+◌, ◌-◌, ◌^◌, ◌<◌, ◌⊎◌, inl, inr, Bool, cond, eqb, List, [], ◌∷◌, ◌++◌, length, map, take, drop, get_or, Some, refl, sym, ap, ◌∙◌, subst, arith, append_assoc, append-nil, length-append}
use Rattle.std.specs.Prelude.{Vec, slice_get, slice_set, flat_map, filter}
use Rattle.std.specs.declared.alloc.Global.{Global}
use Rattle.std.proofs.Math.Seq.{drop-append_seam, drop-length, take-append_seam, take-length}
use Rattle.std.proofs.lemmas.Bool.{cases_eq, cases_lt, eq-eqb, ne_eqb}
use Rattle.std.proofs.lemmas.Grind.{flat_map-append}
use Rattle.std.proofs.lemmas.List.{map-append}
use Rattle.std.proofs.lemmas.List.Elements.{filter-append}
use Rattle.fab_base.specs.Layout.{spelled_low}
use Rattle.pcap_file.specs.Capture.{record_bytes}
use Rattle.fab_config.proofs.ListLemmas.{take_slice}
use Rattle.fab_policy.specs.Growing.{records_to}
use Rattle.fab_policy.specs.Outputs.{Sent}
use Rattle.fab_policy.specs.Text.{sent_bytes}
use Rattle.fab_sending.specs.declared.message.Out.{Out}
pub use Rattle.run_files.proofs.PageLemmas.{length-items, piece-item, length_set, set_page, own_page, other_page, page_of}
use Rattle.fab_pages.specs.Pages.{Adds, AreEarly, items_in, piece_at}

-- ---- what is sent on a port

pub records-append : (p : ℕ) (l m : List Sent) → records_to p (l ++ m) ≡ records_to p l ++ records_to p m
records-append p l m = ap (flat_map sent_bytes) (filter-append (λ (s : Sent). eqb s.port p) l m) ∙ flat_map-append sent_bytes (filter (λ s. eqb s.port p) l) (filter (λ s. eqb s.port p) m)

pub own_record : (p : ℕ) (s : Sent) → s.port ≡ p → records_to p (s ∷ []) ≡ sent_bytes s
own_record p s is = ap (λ (b : Bool). flat_map sent_bytes (cond b (s ∷ []) [])) (eq-eqb s.port p is) ∙ append-nil (sent_bytes s)

pub other_record : (p : ℕ) (s : Sent) → s.port ≢ p → records_to p (s ∷ []) ≡ []
other_record p s ne = ap (λ (b : Bool). flat_map sent_bytes (cond b (s ∷ []) [])) (ne_eqb s.port p ne)

-- ---- pages

pub adds_none : (pages : List (List ℕ)) → Adds [] pages pages
adds_none pages = record { count = refl; pages = λ q lt. sym (append-nil (piece_at pages q)) }

pub adds_more : (l m : List Sent) (a b c : List (List ℕ)) → Adds l a b → Adds m b c → Adds (l ++ m) a c
adds_more l m a b c h k = record {
  count = k.count ∙ h.count;
  pages = λ q lt.
      k.pages q (subst (λ (n : ℕ). q < n) (sym h.count) lt) ∙ ap (λ x. x ++ records_to (q + 1) m) (h.pages q lt)
      ∙ append_assoc (piece_at a q) (records_to (q + 1) l) (records_to (q + 1) m) ∙ ap (λ x. piece_at a q ++ x) (sym (records-append (q + 1) l m));
}

-- no page for a port
pub adds_nowhere : (s : Sent) (pages : List (List ℕ)) → length pages < s.port → Adds (s ∷ []) pages pages
adds_nowhere s pages lt = record {
  count = refl;
  pages = λ q within. sym (ap (λ l. piece_at pages q ++ l) (other_record (q + 1) s (λ e. absurd (omega (arith, e, lt, within)))) ∙ append-nil (piece_at pages q));
}

pub below_or : (q k : ℕ) → q < k + 1 → (q ≡ k) ⊎ (q < k)
below_or q k lt = elim (cases_lt q k) [ inl less ↦ inr less | inr le ↦ inl (omega (arith, lt, le)) ]

-- a record behind the page of its port
pub adds_record : (s : Sent) (l : List (Vec ℕ Global)) (k : ℕ) (v w : Vec ℕ Global) → s.port ≡ k + 1 → k < length l → w ≡ get_or l k w → v.items ≡ w.items ++ sent_bytes s → Adds (s ∷ []) (items_in l) (items_in (slice_set l k v))
adds_record s l k v w port lt is e = record {
  count = length_set l k v;
  pages = λ q within. elim (cases_eq q k) [
    | inl same ↦ subst (λ (x : ℕ). piece_at (items_in (slice_set l k v)) x ≡ piece_at (items_in l) x ++ records_to (x + 1) (s ∷ [])) (sym same)
        (own_page l k v w (sent_bytes s) lt is e ∙ ap (λ x. piece_at (items_in l) k ++ x) (sym (own_record (k + 1) s port)))
    | inr differ ↦
        other_page l k q v differ
        ∙ sym (ap (λ x. piece_at (items_in l) q ++ x) (other_record (q + 1) s (λ f. absurd (differ (omega (arith, f, port))))) ∙ append-nil (piece_at (items_in l) q))
  ];
}

-- ---- what is sent, one after another

pub early_at : (outs : List Out) (i : ℕ) (o : Out) → AreEarly outs → slice_get outs i ≡ Some o → o.moment < 2 ^ 53
early_at [] i o h e = absurd (cc)
early_at (x ∷ outs) zero o h e = let same : x ≡ o = cc in subst (λ (y : Out). y.moment < 2 ^ 53) same h.0
early_at (x ∷ outs) (suc i) o h e = early_at outs i o h.1 e

pub adds_next : (f : Out → Sent) (outs : List Out) (i : ℕ) (o : Out) (a b c : List (List ℕ)) → slice_get outs i ≡ Some o → Adds (map f (take i outs)) a b → Adds (f o ∷ []) b c → Adds (map f (take (i + 1) outs)) a c
adds_next f outs i o a b c at h k =
    subst (λ l. Adds l a c) (sym (ap (map f) (take_slice outs i o at) ∙ map-append f (take i outs) (o ∷ []))) (adds_more (map f (take i outs)) (f o ∷ []) a b c h k)

-- ---- a record, whose lengths are set behind its frame

pub front_of : {X : Type 0} (l m : List X) (n : ℕ) → n ≡ length l → take n (l ++ m) ≡ l
front_of l m n e = ap (λ (k : ℕ). take k (l ++ m)) e ∙ take-append_seam l m

behind_front : (l m : List ℕ) (n : ℕ) → n ≡ length l → drop n (l ++ m) ≡ m
behind_front l m n e = ap (λ (k : ℕ). drop k (l ++ m)) e ∙ drop-append_seam l m

-- the head of a record of nothing, with the length of the frame that stands behind it
length_set_later : (m : ℕ) (bytes X R : List ℕ) → X ≡ record_bytes m [] ++ bytes → R ≡ take 8 X ++ spelled_low 4 (length X - 16) ++ spelled_low 4 (length X - 16) ++ drop 16 X → R ≡ record_bytes m bytes
length_set_later m bytes X R is set =
    let L : List ℕ = record_bytes m [] ++ bytes in
    let size : length L - 16 ≡ length bytes = omega arith in
    set ∙ ap (λ l. take 8 l ++ spelled_low 4 (length l - 16) ++ spelled_low 4 (length l - 16) ++ drop 16 l) is
    ∙ ap (λ (n : ℕ). take 8 L ++ spelled_low 4 n ++ spelled_low 4 n ++ drop 16 L) size

-- what is left of a page's end, where the record is written in its place
pub sent_made : (old P X R W : List ℕ) (b n m : ℕ) (bytes : List ℕ) → b ≡ length old → P ≡ (old ++ record_bytes m []) ++ bytes → X ≡ take (length P - b) (drop b P) →
    R ≡ take 8 X ++ spelled_low 4 (length X - 16) ++ spelled_low 4 (length X - 16) ++ drop 16 X → n ≡ length P →
    take n (take b P ++ (R ++ drop (length P - b) (drop b P)) ++ W) ≡ old ++ record_bytes m bytes
sent_made old P X R W b n m bytes begin is part set all =
    let L : List ℕ = record_bytes m [] ++ bytes in
    let parts : P ≡ old ++ L = is ∙ append_assoc old (record_bytes m []) bytes in
    let rest : drop b P ≡ L = ap (drop b) parts ∙ behind_front old L b begin in
    let front : take b P ≡ old = ap (take b) parts ∙ front_of old L b begin in
    let size : length P ≡ length old + length L = ap length parts ∙ length-append old L in
    let within : length P - b ≡ length L = omega (arith, size, begin) in
    let whole : X ≡ L = part ∙ (λ i. take (within i) (rest i)) ∙ take-length L in
    let made = length_set_later m bytes X R whole set in
    let nothing : drop (length P - b) (drop b P) ≡ [] = (λ i. drop (within i) (rest i)) ∙ drop-length L in
    let lengths : length (record_bytes m bytes) ≡ length L = omega arith in
    (λ i. take n ((front i ++ (made i ++ nothing i)) ++ W))
    ∙ ap (λ l. take n ((old ++ l) ++ W)) (append-nil (record_bytes m bytes))
    ∙ front_of (old ++ record_bytes m bytes) W n (let e = length-append old (record_bytes m bytes) in omega (arith, all, size, e, lengths))
