-- Pages that are out with encoders.
use Rattle.std.proofs.Common.{◌≡◌, ◌≢◌, ℕ, zero, suc, ◌+◌, ◌<◌, Bool, true, false, cond, eqb, ◌||◌, inl, inr, List, [], ◌∷◌, ◌++◌, length, map, take, drop, get_or, Some, refl, sym, ap, ◌∙◌, subst, arith, append_assoc, append-nil}
use Rattle.std.specs.Prelude.{IsTrue, Vec, slice_get, slice_set, flat_map, filter}
use Rattle.std.specs.declared.alloc.Global.{Global}
use Rattle.std.proofs.lemmas.Bool.{cases_Bool, ne_eqb, eqb-true, eqb-false}
use Rattle.std.proofs.lemmas.List.{map-append}
use Rattle.std.proofs.lemmas.List.Elements.{filter-append}
use Rattle.fab_config.proofs.ListLemmas.{take_slice}
use Rattle.fab_policy.specs.Growing.{records_to}
use Rattle.fab_policy.specs.Outputs.{Sent}
use Rattle.fab_policy.specs.Text.{sent_bytes}
use Rattle.fab_policy.specs.declared.event.Event.{Event}
use Rattle.fab_sending.specs.declared.message.Out.{Out}
use Rattle.fab_sending.specs.Message.{AreSendable, can_send}
use Rattle.fab_pages.specs.Pages.{Adds, items_in, piece_at}
use Rattle.fab_pages.specs.declared.encoders.Encoder.{Encoder}
use Rattle.fab_pages.specs.Encoders.{AreBelow, AreOut, IsEncoded, NoneFor, NoneRefused, has_place, page_in}
use Rattle.fab_pages.proofs.PageLemmas.{below_or, records-append, set_page, other_page, piece-item, front_of, length-items}

neither : (a b : Bool) → (a || b) ≡ false → (a ≡ false) × (b ≡ false)
neither true b e = absurd cc
neither false b e = (refl, e)

-- ---- the records of one port

pub records_next : (p : ℕ) (f : Out → Sent) (outs : List Out) (i : ℕ) (o : Out) (old a b : List ℕ) → slice_get outs i ≡ Some o → a ≡ old ++ records_to p (map f (take i outs)) → b ≡ a ++ records_to p (f o ∷ []) → b ≡ old ++ records_to p (map f (take (i + 1) outs))
records_next p f outs i o old a b at so_far next =
    next ∙ ap (λ l. l ++ records_to p (f o ∷ [])) so_far ∙ append_assoc old (records_to p (map f (take i outs))) (records_to p (f o ∷ []))
    ∙ ap (λ l. old ++ l) (sym (ap (λ l. records_to p (map f l)) (take_slice outs i o at) ∙ ap (records_to p) (map-append f (take i outs) (o ∷ [])) ∙ records-append p (map f (take i outs)) (f o ∷ [])))

pub none_next : (q : ℕ) (outs : List Out) (i : ℕ) (o : Out) → slice_get outs i ≡ Some o → o.port ≢ q + 1 → NoneFor q (take i outs) → NoneFor q (take (i + 1) outs)
none_next q outs i o at ne none =
    let P : Out → Bool = λ x. eqb x.port (q + 1) in
    ap (filter P) (take_slice outs i o at) ∙ filter-append P (take i outs) (o ∷ []) ∙ ap (λ l. l ++ filter P (o ∷ [])) none ∙ ap (λ (b : Bool). cond b (o ∷ []) []) (ne_eqb o.port (q + 1) ne)

sent_step : (f : Out → Sent) (o : Out) (kept : List Out) (sents : List Sent) → (kept ≡ [] → flat_map sent_bytes sents ≡ []) → (b : Bool) → cond b (o ∷ kept) kept ≡ [] → flat_map sent_bytes (cond b (f o ∷ sents) sents) ≡ []
sent_step f o kept sents later true e = absurd cc
sent_step f o kept sents later false e = later e

pub no_records : (q : ℕ) (f : Out → Sent) → ((o : Out) → (f o).port ≡ o.port) → (outs : List Out) → NoneFor q outs → records_to (q + 1) (map f outs) ≡ []
no_records q f ports [] none = refl
no_records q f ports (o ∷ outs) none =
    let kept : List Out = filter (λ x. eqb x.port (q + 1)) outs in
    let sents : List Sent = filter (λ s. eqb s.port (q + 1)) (map f outs) in
    ap (λ (n : ℕ). flat_map sent_bytes (cond (eqb n (q + 1)) (f o ∷ sents) sents)) (ports o) ∙ sent_step f o kept sents (λ e. no_records q f ports outs e) (eqb o.port (q + 1)) none

-- ---- encoders, one more at the end

pub page_in-snoc : (q : ℕ) (es : List Encoder) (e : Encoder) (d : List ℕ) → page_in q (es ++ e ∷ []) d ≡ page_in q es (cond (eqb e.place q) e.page.items d)
page_in-snoc q [] e d = refl
page_in-snoc q (x ∷ es) e d = ap (λ l. cond (eqb x.place q) x.page.items l) (page_in-snoc q es e d)

has_before : (q : ℕ) (es : List Encoder) (e : Encoder) → has_place q (es ++ e ∷ []) ≡ false → has_place q es ≡ false
has_before q [] e away = refl
has_before q (x ∷ es) e away = let no = neither (eqb x.place q) (has_place q (es ++ e ∷ [])) away in ap (λ (b : Bool). b || has_place q es) no.0 ∙ has_before q es e no.1

has_last : (q : ℕ) (es : List Encoder) (e : Encoder) → has_place q (es ++ e ∷ []) ≡ false → e.place ≢ q
has_last q [] e away same = eqb-false e.place q (neither (eqb e.place q) false away).0 same
has_last q (x ∷ es) e away same = has_last q es e (neither (eqb x.place q) (has_place q (es ++ e ∷ [])) away).1 same

wider : (k : ℕ) (es : List Encoder) → AreBelow k es → AreBelow (k + 1) es
wider k [] h = h
wider k (e ∷ es) h = (let first = h.0 in omega arith, wider k es h.1)

below_more : (n : ℕ) (es : List Encoder) (e : Encoder) → AreBelow n es → e.place < n → AreBelow n (es ++ e ∷ [])
below_more n [] e h lt = (lt, tt)
below_more n (x ∷ es) e h lt = (h.0, below_more n es e h.1 lt)

pub below_front : (n : ℕ) (es : List Encoder) (e : Encoder) → AreBelow n (es ++ e ∷ []) → AreBelow n es
below_front n [] e h = tt
below_front n (x ∷ es) e h = (h.0, below_front n es e h.1)

pub below_last : (n : ℕ) (es : List Encoder) (e : Encoder) → AreBelow n (es ++ e ∷ []) → e.place < n
below_last n [] e h = h.0
below_last n (x ∷ es) e h = below_last n es e h.1

pub refused_more : (es : List Encoder) (e : Encoder) → NoneRefused es → e.refused ≡ false → NoneRefused (es ++ e ∷ [])
refused_more [] e h mine = (mine, tt)
refused_more (x ∷ es) e h mine = (h.0, refused_more es e h.1 mine)

pub none_out : (outs : List Out) (pages : List (List ℕ)) → AreOut 0 outs [] pages pages
none_out outs pages = record { within = tt; pages = λ q lt. refl; others = λ q lt away. absurd (omega (arith, lt)) }

-- a port without a record
pub out_idle : (k : ℕ) (outs : List Out) (es : List Encoder) (old new : List (List ℕ)) → NoneFor k outs → AreOut k outs es old new → AreOut (k + 1) outs es old new
out_idle k outs es old new none o = record {
  within = wider k es o.within;
  pages = o.pages;
  others = λ q lt away. elim (below_or q k lt) [ inl same ↦ subst (λ (x : ℕ). NoneFor x outs) (sym same) none | inr less ↦ o.others q less away ];
}

-- a page goes out
pub out_more : (k : ℕ) (outs : List Out) (es : List Encoder) (old : List (List ℕ)) (l : List (Vec ℕ Global)) (v w : Vec ℕ Global) (e : Encoder) → k < length l → v ≡ get_or l k v → e.place ≡ k → e.page ≡ v
    → AreOut k outs es old (items_in l) → AreOut (k + 1) outs (es ++ e ∷ []) old (items_in (slice_set l k w))
out_more k outs es old l v w e within is place page o = record {
  within = below_more (k + 1) es e (wider k es o.within) (omega (arith, place));
  pages = λ q lt. page_in-snoc q es e (piece_at (items_in (slice_set l k w)) q) ∙ ap (page_in q es) (piece q) ∙ o.pages q lt;
  others = λ q lt away. elim (below_or q k lt) [ inl same ↦ absurd (has_last q es e away (place ∙ sym same)) | inr less ↦ o.others q less (has_before q es e away) ];
}
  where
    piece : (q : ℕ) → cond (eqb e.place q) e.page.items (piece_at (items_in (slice_set l k w)) q) ≡ piece_at (items_in l) q
    piece q = elim (cases_Bool (eqb k q)) [
      | inl hit ↦
          let same : k ≡ q = eqb-true k q hit in
          ap (λ (b : Bool). cond b e.page.items (piece_at (items_in (slice_set l k w)) q)) (ap (λ (n : ℕ). eqb n q) place ∙ hit) ∙ ap (λ (x : Vec ℕ Global). x.items) page ∙ piece-item l k v within is ∙ ap (piece_at (items_in l)) same
      | inr miss ↦
          let differ : k ≢ q = eqb-false k q miss in
          ap (λ (b : Bool). cond b e.page.items (piece_at (items_in (slice_set l k w)) q)) (ap (λ (n : ℕ). eqb n q) place ∙ miss) ∙ other_page l k q w (λ same. differ (sym same))
    ]

-- ---- pages that come back

-- Of all encoders these are left; the pages of the others were put back.
pub record AreLeft (all left : List Encoder) (first pages : List (List ℕ)) (refused : Bool) : Type 0 where
  pub within : AreBelow (length first) left
  pub count : length pages ≡ length first
  pub page : (q : ℕ) → q < length first → page_in q left (piece_at pages q) ≡ page_in q all (piece_at first q)
  pub none : refused ≡ false → NoneRefused left → NoneRefused all

pub left_all : (all : List Encoder) (first : List (List ℕ)) → AreBelow (length first) all → AreLeft all all first first false
left_all all first within = record { within = within; count = refl; page = λ q lt. refl; none = λ e h. h }

pub left_fewer : (all left rest : List Encoder) (first : List (List ℕ)) (l : List (Vec ℕ Global)) (refused : Bool) (e : Encoder) → left ≡ rest ++ e ∷ [] → AreLeft all left first (items_in l) refused
    → length (items_in (slice_set l e.place e.page)) ≡ length (items_in l) → AreLeft all rest first (items_in (slice_set l e.place e.page)) (refused || e.refused)
left_fewer all left rest first l refused e is so_far same = record {
  within = below_front (length first) rest e below;
  count = same ∙ so_far.count;
  page = λ q lt. sym (ap (page_in q rest) (piece q)) ∙ sym (ap (λ es. page_in q es (piece_at (items_in l) q)) is ∙ page_in-snoc q rest e (piece_at (items_in l) q)) ∙ so_far.page q lt;
  none = λ n h. let both = neither refused e.refused n in so_far.none both.0 (subst NoneRefused (sym is) (refused_more rest e h both.1));
}
  where
    below : AreBelow (length first) (rest ++ e ∷ [])
    below = subst (AreBelow (length first)) is so_far.within

    within : e.place < length (items_in l)
    within = let lt = below_last (length first) rest e below in let n = so_far.count in omega (arith, lt, n)

    piece : (q : ℕ) → cond (eqb e.place q) e.page.items (piece_at (items_in l) q) ≡ piece_at (items_in (slice_set l e.place e.page)) q
    piece q = elim (cases_Bool (eqb e.place q)) [
      | inl hit ↦
          let place : e.place ≡ q = eqb-true e.place q hit in
          ap (λ (b : Bool). cond b e.page.items (piece_at (items_in l) q)) hit ∙ sym (ap (piece_at (items_in (slice_set l e.place e.page))) (sym place) ∙ set_page l e.place e.page (subst (λ (n : ℕ). e.place < n) (length-items l) within))
      | inr miss ↦
          let differ : e.place ≢ q = eqb-false e.place q miss in
          ap (λ (b : Bool). cond b e.page.items (piece_at (items_in l) q)) miss ∙ sym (other_page l e.place q e.page (λ same. differ (sym same)))
    ]

-- ---- pages with their records

extended_by : (sents : List Sent) (q : ℕ) (e f : Encoder) (page more : List ℕ) (has : Bool) → IsEncoded sents e f → f.refused ≡ false → ((eqb e.place q || has) ≡ false → records_to (q + 1) sents ≡ []) →
    ((has ≡ false → records_to (q + 1) sents ≡ []) → more ≡ page ++ records_to (q + 1) sents) → (b : Bool) → eqb e.place q ≡ b → cond (eqb f.place q) f.page.items more ≡ cond (eqb e.place q) e.page.items page ++ records_to (q + 1) sents
extended_by sents q e f page more has mine fine nothing later true at =
    let same : e.place ≡ q = eqb-true e.place q at in
    ap (λ (b : Bool). cond b f.page.items more) (ap (λ (n : ℕ). eqb n q) mine.place ∙ at) ∙ mine.records fine ∙ ap (λ (n : ℕ). e.page.items ++ records_to (n + 1) sents) same
    ∙ ap (λ (b : Bool). cond b e.page.items page ++ records_to (q + 1) sents) (sym at)
extended_by sents q e f page more has mine fine nothing later false at =
    ap (λ (b : Bool). cond b f.page.items more) (ap (λ (n : ℕ). eqb n q) mine.place ∙ at) ∙ later (λ away. nothing (ap (λ (b : Bool). b || has) at ∙ away))
    ∙ ap (λ (b : Bool). cond b e.page.items page ++ records_to (q + 1) sents) (sym at)

pub extended : (sents : List Sent) (q : ℕ) (es more : List Encoder) (d : List ℕ) → length more ≡ length es → ((k : ℕ) (x : Encoder) → k < length es → IsEncoded sents (get_or es k x) (get_or more k x)) → NoneRefused more
    → (has_place q es ≡ false → records_to (q + 1) sents ≡ []) → page_in q more d ≡ page_in q es d ++ records_to (q + 1) sents
extended sents q [] [] d len each none nothing = sym (ap (λ l. d ++ l) (nothing refl) ∙ append-nil d)
extended sents q [] (f ∷ more) d len each none nothing = absurd (omega (arith, len))
extended sents q (e ∷ es) [] d len each none nothing = absurd (omega (arith, len))
extended sents q (e ∷ es) (f ∷ more) d len each none nothing =
    extended_by sents q e f (page_in q es d) (page_in q more d) (has_place q es) (each 0 e (omega arith)) none.0 nothing
    (λ h. extended sents q es more d (let l : suc (length more) ≡ suc (length es) = len in omega (arith, l)) (λ k x lt. each (suc k) x (omega (arith, lt))) none.1 h)
    (eqb e.place q) refl

pub below_encoded : (n : ℕ) (sents : List Sent) (es more : List Encoder) → length more ≡ length es → ((k : ℕ) (x : Encoder) → k < length es → IsEncoded sents (get_or es k x) (get_or more k x)) → AreBelow n es → AreBelow n more
below_encoded n sents [] [] len each h = tt
below_encoded n sents [] (f ∷ more) len each h = absurd (omega (arith, len))
below_encoded n sents (e ∷ es) [] len each h = absurd (omega (arith, len))
below_encoded n sents (e ∷ es) (f ∷ more) len each h = (
  subst (λ (k : ℕ). k < n) (sym (each 0 e (omega arith)).place) h.0,
  below_encoded n sents es more (let l : suc (length more) ≡ suc (length es) = len in omega (arith, l)) (λ k x lt. each (suc k) x (omega (arith, lt))) h.1,
)

-- what a `Vec` has after its slice was lent
pub lent : (old new : List Encoder) (n : ℕ) → n ≡ length old → length new ≡ length old → take n (new ++ drop (length new) old) ≡ new
lent old new n is len = front_of new (drop (length new) old) n (is ∙ sym len)

-- what all threads did
pub adds_all : (f : Out → Sent) (ports : (o : Out) → (f o).port ≡ o.port) (outs : List Out) (es more : List Encoder) (old between new : List (List ℕ)) → AreOut (length old) outs es old between → length more ≡ length es
    → ((k : ℕ) (x : Encoder) → k < length es → IsEncoded (map f outs) (get_or es k x) (get_or more k x)) → NoneRefused more → length between ≡ length old → length new ≡ length between
    → ((q : ℕ) → q < length between → piece_at new q ≡ page_in q more (piece_at between q)) → Adds (map f outs) old new
adds_all f ports outs es more old between new out len each none same count back = record {
  count = count ∙ same;
  pages = λ q lt. back q (omega (arith, lt, same)) ∙ extended (map f outs) q es more (piece_at between q) len each none (λ away. no_records q f ports outs (out.others q lt away)) ∙ ap (λ l. l ++ records_to (q + 1) (map f outs)) (out.pages q lt);
}

-- a message at its place can be sent
pub can_at : (events : List Event) (outs : List Out) (i : ℕ) (o : Out) → AreSendable events outs → slice_get outs i ≡ Some o → IsTrue (can_send events o.message)
can_at events [] i o h e = absurd cc
can_at events (x ∷ outs) zero o h e = let same : x ≡ o = cc in subst (λ (y : Out). IsTrue (can_send events y.message)) same (h 0 x (omega arith))
can_at events (x ∷ outs) (suc i) o h e = can_at events outs i o (λ k d lt. h (suc k) d (omega (arith, lt))) e
