-- Pages in front of which stands what they had.
use Rattle.std.proofs.Common.{◌≡◌, ◌≢◌, ℕ, zero, suc, ◌+◌, ◌<◌, ◌≤◌, inl, inr, Bool, true, false, cond, eqb, List, [], ◌∷◌, ◌++◌, length, map, take, drop, get_or, refl, sym, ap, ◌∙◌, subst, arith, append_assoc, append-nil}
use Rattle.std.specs.Prelude.{Vec, slice_set}
use Rattle.std.specs.declared.alloc.Global.{Global}
use Rattle.std.proofs.lemmas.Bool.{cases_eq}
use Rattle.fab_policy.specs.Outputs.{Sent}
use Rattle.fab_sending.specs.declared.message.Out.{Out}
use Rattle.run_files.specs.Pages.{items_in, piece_at}
use Rattle.fab_pages.specs.Pages.{Adds, GoOn, GoesOn}
use Rattle.fab_pages.specs.declared.encoders.Encoder.{Encoder}
use Rattle.fab_pages.specs.Encoders.{AreBelow, AreOut, IsEncoded, NoneRefused, page_in}
use Rattle.fab_pages.proofs.PageLemmas.{front_of, length-items, length_set, other_page, piece-item, below_or, set_page}
use Rattle.fab_pages.proofs.EncoderLemmas.{adds_all, below_encoded, lent}

pub goes_same : (old new : List ℕ) → new ≡ old → GoesOn old new
goes_same old new same = ([], same ∙ sym (append-nil old))

pub goes_trans : (a b c : List ℕ) → GoesOn a b → GoesOn b c → GoesOn a c
goes_trans a b c h k = (h.0 ++ k.0, k.1 ∙ ap (λ l. l ++ k.0) h.1 ∙ append_assoc a h.0 k.0)

pub go_refl : (pages : List (List ℕ)) → GoOn pages pages
go_refl pages = record { count = refl; pages = λ q lt. goes_same (piece_at pages q) (piece_at pages q) refl }

pub go_trans : (a b c : List (List ℕ)) → GoOn a b → GoOn b c → GoOn a c
go_trans a b c h k = record {
  count = k.count ∙ h.count;
  pages = λ q lt. goes_trans (piece_at a q) (piece_at b q) (piece_at c q) (h.pages q lt) (k.pages q (subst (λ (n : ℕ). q < n) (sym h.count) lt));
}

-- one page goes on
pub go_page : (l : List (Vec ℕ Global)) (k : ℕ) (v w : Vec ℕ Global) → k < length l → w ≡ get_or l k w → GoesOn w.items v.items → GoOn (items_in l) (items_in (slice_set l k v))
go_page l k v w within is on = record {
  count = length_set l k v;
  pages = λ q lt. elim (cases_eq q k) [
    | inl same ↦ subst (λ (x : ℕ). GoesOn (piece_at (items_in l) x) (piece_at (items_in (slice_set l k v)) x)) (sym same)
        (on.0, set_page l k v within ∙ on.1 ∙ ap (λ x. x ++ on.0) (piece-item l k w within is))
    | inr differ ↦ goes_same (piece_at (items_in l) q) (piece_at (items_in (slice_set l k v)) q) (other_page l k q v differ)
  ];
}

-- ---- pages that are cut again

length-at : (pages : List (List ℕ)) (q : ℕ) → q < length pages → get_or (map (λ page. length page) pages) q 0 ≡ length (piece_at pages q)
length-at [] q lt = absurd (omega (arith, lt))
length-at (x ∷ pages) zero lt = refl
length-at (x ∷ pages) (suc q) lt = length-at pages q (omega (arith, lt))

same_pages : (a b : List (List ℕ)) → length b ≡ length a → ((q : ℕ) → q < length a → piece_at b q ≡ piece_at a q) → b ≡ a
same_pages [] [] len each = refl
same_pages [] (y ∷ b) len each = absurd (omega (arith, len))
same_pages (x ∷ a) [] len each = absurd (omega (arith, len))
same_pages (x ∷ a) (y ∷ b) len each =
    let first : y ≡ x = each 0 (omega arith) in
    let rest : b ≡ a = same_pages a b (let l : suc (length b) ≡ suc (length a) = len in omega (arith, l)) (λ q lt. each (suc q) (omega (arith, lt))) in
    ap (λ h. h ∷ b) first ∙ ap (λ t. x ∷ t) rest

-- the lengths of pages, one further
pub lengths_next : (l : List (Vec ℕ Global)) (i : ℕ) (v : Vec ℕ Global) → i < length l → v ≡ get_or l i v → map (λ page. length page) (items_in (take (i + 1) l)) ≡ map (λ page. length page) (items_in (take i l)) ++ length v.items ∷ []
lengths_next [] i v lt is = absurd (omega (arith, lt))
lengths_next (x ∷ l) zero v lt is = ap (λ (y : Vec ℕ Global). length y.items ∷ []) (sym is)
lengths_next (x ∷ l) (suc i) v lt is = ap (λ (n : ℕ). map (λ page. length page) (items_in (take n (x ∷ l)))) (let e : suc i + 1 ≡ suc (i + 1) = omega arith in e) ∙ ap (λ m. length x.items ∷ m) (lengths_next l i v (omega (arith, lt)) is)

-- of the first k places each page is cut to its length, and the others are as they were
pub record AreCut (k : ℕ) (lengths : List ℕ) (old new : List (List ℕ)) : Type 0 where
  pub count : length new ≡ length old
  pub pages : (q : ℕ) → q < k → piece_at new q ≡ take (get_or lengths q 0) (piece_at old q)
  pub others : (q : ℕ) → k ≤ q → piece_at new q ≡ piece_at old q

pub cut_none : (lengths : List ℕ) (pages : List (List ℕ)) → AreCut 0 lengths pages pages
cut_none lengths pages = record { count = refl; pages = λ q lt. absurd (omega (arith, lt)); others = λ q le. refl }

pub cut_more : (k : ℕ) (lengths : List ℕ) (old now new : List (List ℕ)) → AreCut k lengths old now → length new ≡ length now → piece_at new k ≡ take (get_or lengths k 0) (piece_at now k)
    → ((q : ℕ) → q ≢ k → piece_at new q ≡ piece_at now q) → AreCut (k + 1) lengths old new
cut_more k lengths old now new h len own others = record {
  count = len ∙ h.count;
  pages = λ q lt. elim (below_or q k lt) [
    | inl same ↦ subst (λ (x : ℕ). piece_at new x ≡ take (get_or lengths x 0) (piece_at old x)) (sym same) (own ∙ ap (take (get_or lengths k 0)) (h.others k (omega arith)))
    | inr less ↦ others q (λ e. absurd (omega (arith, e, less))) ∙ h.pages q less
  ];
  others = λ q le. others q (λ e. absurd (omega (arith, e, le))) ∙ h.others q (omega (arith, le));
}

pub pages_back : (lengths : List ℕ) (old now back : List (List ℕ)) → lengths ≡ map (λ page. length page) old → GoOn old now → length back ≡ length now
    → ((q : ℕ) → q < length now → piece_at back q ≡ take (get_or lengths q 0) (piece_at now q)) → back ≡ old
pages_back lengths old now back are on len each = same_pages old back (len ∙ on.count) (λ q lt.
    let more = on.pages q lt in
    let size : get_or lengths q 0 ≡ length (piece_at old q) = ap (λ l. get_or l q 0) are ∙ length-at old q lt in
    each q (subst (λ (n : ℕ). q < n) (sym on.count) lt) ∙ ap (take (get_or lengths q 0)) more.1 ∙ front_of (piece_at old q) more.0 (get_or lengths q 0) size)

-- ---- pages that were out with encoders

front_by : (q : ℕ) (e f : Encoder) (page more : List ℕ) → f.place ≡ e.place → GoesOn e.page.items f.page.items → GoesOn page more → (b : Bool) → eqb e.place q ≡ b → GoesOn (cond (eqb e.place q) e.page.items page) (cond (eqb f.place q) f.page.items more)
front_by q e f page more same mine rest true at =
    (mine.0, ap (λ (b : Bool). cond b f.page.items more) (ap (λ (n : ℕ). eqb n q) same ∙ at) ∙ mine.1 ∙ ap (λ (b : Bool). cond b e.page.items page ++ mine.0) (sym at))
front_by q e f page more same mine rest false at =
    (rest.0, ap (λ (b : Bool). cond b f.page.items more) (ap (λ (n : ℕ). eqb n q) same ∙ at) ∙ rest.1 ∙ ap (λ (b : Bool). cond b e.page.items page ++ rest.0) (sym at))

fronts_in : (sents : List Sent) (q : ℕ) (es more : List Encoder) (d : List ℕ) → length more ≡ length es → ((k : ℕ) (x : Encoder) → k < length es → IsEncoded sents (get_or es k x) (get_or more k x)) → GoesOn (page_in q es d) (page_in q more d)
fronts_in sents q [] [] d len each = goes_same d d refl
fronts_in sents q [] (f ∷ more) d len each = absurd (omega (arith, len))
fronts_in sents q (e ∷ es) [] d len each = absurd (omega (arith, len))
fronts_in sents q (e ∷ es) (f ∷ more) d len each =
    let mine = each 0 e (omega arith) in
    front_by q e f (page_in q es d) (page_in q more d) mine.place mine.front
    (fronts_in sents q es more d (let l : suc (length more) ≡ suc (length es) = len in omega (arith, l)) (λ k x lt. each (suc k) x (omega (arith, lt))))
    (eqb e.place q) refl

pub all_fronts : (sents : List Sent) (outs : List Out) (es more : List Encoder) (old between new : List (List ℕ)) → AreOut (length old) outs es old between → length more ≡ length es
    → ((k : ℕ) (x : Encoder) → k < length es → IsEncoded sents (get_or es k x) (get_or more k x)) → length between ≡ length old → length new ≡ length between
    → ((q : ℕ) → q < length between → piece_at new q ≡ page_in q more (piece_at between q)) → GoOn old new
all_fronts sents outs es more old between new out len each same count back = record {
  count = count ∙ same;
  pages = λ q lt.
      let on = fronts_in sents q es more (piece_at between q) len each in
      (on.0, back q (subst (λ (n : ℕ). q < n) (sym same) lt) ∙ on.1 ∙ ap (λ l. l ++ on.0) (out.pages q lt));
}

-- The encoders' list is lent as a slice, each encoder does its work there, and their pages come back.
module _ (f : Out → Sent) (ports : (o : Out) → (f o).port ≡ o.port) (outs : List Out) (slice old new : List Encoder) (n : ℕ) (before between : List (Vec ℕ Global)) (same : slice ≡ old) (count : length new ≡ length slice) (each : (k : ℕ) (x : Encoder) → k < length slice → IsEncoded (map f outs) (get_or slice k x) (get_or new k x)) (all : n ≡ length old) (out : AreOut (length before) outs old (items_in before) (items_in between)) (taken : length between ≡ length before) where
  -- the encoders of the list again
  abbrev here : List Encoder
  here = take n (new ++ drop (length new) old)

  back : here ≡ new
  back = lent old new n all (count ∙ ap (λ (es : List Encoder). length es) same)

  out_of : AreOut (length (items_in before)) outs slice (items_in before) (items_in between)
  out_of =
      subst (λ (es : List Encoder). AreOut (length (items_in before)) outs es (items_in before) (items_in between)) (sym same)
      (subst (λ (m : ℕ). AreOut m outs old (items_in before) (items_in between)) (sym (length-items before)) out)

  pub within_back : AreBelow (length between) here
  within_back =
      subst (AreBelow (length between)) (sym back)
      (below_encoded (length between) (map f outs) slice new count each (subst (AreBelow (length between)) (sym same) (subst (λ (m : ℕ). AreBelow m old) (sym taken) out.within)))

  module _ (after : List (Vec ℕ Global)) (put : length after ≡ length between) (pages : (q : ℕ) → q < length between → piece_at (items_in after) q ≡ page_in q here (piece_at (items_in between) q)) where
    put_items : length (items_in after) ≡ length (items_in between)
    put_items = length-items after ∙ put ∙ sym (length-items between)

    taken_items : length (items_in between) ≡ length (items_in before)
    taken_items = length-items between ∙ taken ∙ sym (length-items before)

    page_back : (q : ℕ) → q < length (items_in between) → piece_at (items_in after) q ≡ page_in q new (piece_at (items_in between) q)
    page_back q lt =
        subst (λ (es : List Encoder). piece_at (items_in after) q ≡ page_in q es (piece_at (items_in between) q)) back (pages q (subst (λ (m : ℕ). q < m) (length-items between) lt))

    pub written_back : {R : Type 0} → (R → NoneRefused here) → (R → Adds (map f outs) (items_in before) (items_in after)) × GoOn (items_in before) (items_in after)
    written_back none = (
      λ r. adds_all f ports outs slice new (items_in before) (items_in between) (items_in after) out_of count each (subst NoneRefused back (none r)) taken_items put_items page_back,
      all_fronts (map f outs) outs slice new (items_in before) (items_in between) (items_in after) out_of count each taken_items put_items page_back,
    )
