-- The lines of a seam at their places, and the sections of a text.
use Rattle.std.proofs.Common.{◌≡◌, ℕ, zero, suc, ◌+◌, ◌<◌, ◌≤◌, ◌^◌, Bool, true, false, List, [], ◌∷◌, ◌++◌, length, take, drop, map, length-append, Option, Some, None, IfSome, slice_get, unwrap_or, decimal, refl, sym, ap, subst, ◌∙◌, append_assoc, arith, inl, inr, ◌⊎◌}
use Rattle.std.specs.Prelude.{codes, flat_map}
use Rattle.std.specs.Str.{bytes_eq}
use Rattle.std.proofs.lemmas.Slice.Eq.{bytes_eq-Decides}
use Rattle.fab_base.specs.Counting.{counting}
use Rattle.fab_base.specs.Fabric.{Past}
use Rattle.fab_policy.specs.Text.{address_word}
use Rattle.fab_policy.proofs.WordLemmas.{hex_inside}
use Rattle.fab_pieces.specs.Seam.{AreBelow, ArePast, IsLong, IsRangedPast, IsRangedSeam, Seam, login_row, may_word, name_word, past_row, past_rows, port_rows, row_text, rows_of}
use Rattle.fab_pieces.proofs.SeamLemmas.{all_inside, may_inside}
use Rattle.fab_state.specs.Readable.{IsOther, NoAddress, NoKind}
use Rattle.fab_state.specs.Words.{AreLines, IsLine, first_of}
use Rattle.fab_state.proofs.LineLemmas.{line_of, lines_of}

-- ---- a line at its place

pub at_place : (rows : List (List (List ℕ))) (k : ℕ) (ws : List (List ℕ)) (more : List ℕ) → slice_get rows k ≡ Some ws →
    flat_map row_text rows ++ more ≡ flat_map row_text (take k rows) ++ (row_text ws ++ (flat_map row_text (drop (suc k) rows) ++ more))
at_place [] k ws more e = absurd (cc)
at_place (r ∷ rows) zero ws more e =
    let same : r ≡ ws = cc in
    append_assoc (row_text r) (flat_map row_text rows) more ∙ ap (λ x. row_text x ++ (flat_map row_text rows ++ more)) same
at_place (r ∷ rows) (suc k) ws more e =
    append_assoc (row_text r) (flat_map row_text rows) more ∙ ap (λ l. row_text r ++ l) (at_place rows k ws more e)
    ∙ sym (append_assoc (row_text r) (flat_map row_text (take k rows)) (row_text ws ++ (flat_map row_text (drop (suc k) rows) ++ more)))

pub take_lines : (rows : List (List (List ℕ))) (k : ℕ) → AreLines rows → AreLines (take k rows)
take_lines [] zero h = tt
take_lines [] (suc k) h = tt
take_lines (r ∷ rows) zero h = tt
take_lines (r ∷ rows) (suc k) h = (h.0, take_lines rows k h.1)

pub length-take_at : (rows : List (List (List ℕ))) (k : ℕ) (ws : List (List ℕ)) → slice_get rows k ≡ Some ws → length (take k rows) ≡ k
length-take_at [] k ws e = absurd (cc)
length-take_at (r ∷ rows) zero ws e = refl
length-take_at (r ∷ rows) (suc k) ws e = let h = length-take_at rows k ws e in omega (arith, h)

pub line_in : (rows : List (List (List ℕ))) (k : ℕ) (ws : List (List ℕ)) → AreLines rows → slice_get rows k ≡ Some ws → IsLine ws
line_in [] k ws h e = absurd (cc)
line_in (r ∷ rows) zero ws h e = let same : r ≡ ws = cc in subst IsLine same h.0
line_in (r ∷ rows) (suc k) ws h e = line_in rows k ws h.1 e

pub all_lines : (s : Seam) → IsRangedSeam s → AreLines (rows_of s)
all_lines s h = lines_of (rows_of s) (all_inside s h)

pub may_first : (o : Option ℕ) → unwrap_or (slice_get (may_word o) 0) [] ≡ first_of (may_word o)
may_first None = refl
may_first (Some n) = refl

-- ---- ports

pub port_row_at : (k : ℕ) (ns : List ℕ) (i n : ℕ) (more : List (List (List ℕ))) → slice_get ns i ≡ Some n → (w : List ℕ) × (slice_get (port_rows k ns ++ more) i ≡ Some (codes "port" ∷ w ∷ decimal n ∷ []))
port_row_at k [] i n more e = absurd (cc)
port_row_at k (m ∷ ns) zero n more e = let same : m ≡ n = cc in (decimal k, ap (λ (x : ℕ). Some (codes "port" ∷ decimal k ∷ decimal x ∷ [])) same)
port_row_at k (m ∷ ns) (suc i) n more e = port_row_at (k + 1) ns i n more e

pub behind_head : (s : Seam) (i : ℕ) → slice_get (rows_of s) (i + 5) ≡ slice_get (port_rows 1 s.nexts ++ (past_rows s.state.tables.past ++ map login_row s.state.tables.ports)) i
behind_head s i = ap (λ (k : ℕ). slice_get (rows_of s) k) (let five : i + 5 ≡ suc (suc (suc (suc (suc i)))) = omega arith in five)

pub below_at : (most : ℕ) (ns : List ℕ) (i n : ℕ) → AreBelow most ns → slice_get ns i ≡ Some n → n < most
below_at most [] i n h e = absurd (cc)
below_at most (m ∷ ns) zero n h e = let same : m ≡ n = cc in subst (λ (x : ℕ). x < most) same h.0
below_at most (m ∷ ns) (suc i) n h e = below_at most ns i n h.1 e

pub some_at : {X : Type 0} (xs : List X) (i : ℕ) → i < length xs → (x : X) × (slice_get xs i ≡ Some x)
some_at [] i low = absurd (omega arith)
some_at (x ∷ xs) zero low = (x, refl)
some_at (x ∷ xs) (suc i) low = some_at xs i (omega arith)

-- ---- addresses

pub past_is_line : (q : Past) (name : ℕ) → IsRangedPast q → IsLine (past_row q name)
past_is_line q name h = line_of (past_row q name) (refl, (hex_inside 6 q.address, (hex_inside 16 name, may_inside q.ended h.ended)))

pub named_long : (q : Past) (name : ℕ) → IsRangedPast q → q.name ≡ Some name → name < 2 ^ 64
named_long q name h e = subst (λ (o : Option ℕ). IfSome o IsLong) e h.name

-- the text of addresses whose first has a name, and has none
pub named_text : (q : Past) (tail : List Past) (name : ℕ) (more : List ℕ) → q.name ≡ Some name → flat_map row_text (past_rows (q ∷ tail)) ++ more ≡ row_text (past_row q name) ++ (flat_map row_text (past_rows tail) ++ more)
named_text q tail name more e = by (q.name) e
  where
    by : (o : Option ℕ) → o ≡ Some name → flat_map row_text (elim o as (λ _. List (List (List ℕ))) [ None ↦ past_rows tail | Some n ↦ past_row q n ∷ past_rows tail ]) ++ more ≡ row_text (past_row q name) ++ (flat_map row_text (past_rows tail) ++ more)
    by None e = absurd (cc)
    by (Some n) e = let same : n ≡ name = cc in append_assoc (row_text (past_row q n)) (flat_map row_text (past_rows tail)) more ∙ ap (λ (m : ℕ). row_text (past_row q m) ++ (flat_map row_text (past_rows tail) ++ more)) same

pub unnamed_text : (q : Past) (tail : List Past) (more : List ℕ) → q.name ≡ None → flat_map row_text (past_rows (q ∷ tail)) ++ more ≡ flat_map row_text (past_rows tail) ++ more
unnamed_text q tail more e = by (q.name) e
  where
    by : (o : Option ℕ) → o ≡ None → flat_map row_text (elim o as (λ _. List (List (List ℕ))) [ None ↦ past_rows tail | Some n ↦ past_row q n ∷ past_rows tail ]) ++ more ≡ flat_map row_text (past_rows tail) ++ more
    by None e = refl
    by (Some n) e = absurd (cc)

pub tail_other : (n k a : ℕ) (tail : List Past) (more : List ℕ) → map (λ (q : Past). q.address) tail ≡ counting k n → a < k → ArePast tail → NoAddress more → IsOther a (flat_map row_text (past_rows tail) ++ more)
tail_other n k a [] more places low h none = inl none
tail_other zero k a (x ∷ xs) more places low h none = absurd (cc)
tail_other (suc n) k a (x ∷ xs) more places low h none = by (x.name) refl (tail_other n (k + 1) a xs more others (omega arith) h.1 none)
  where
    first : x.address ≡ k
    first = cc

    others : map (λ (q : Past). q.address) xs ≡ counting (k + 1) n
    others = cc

    by : (o : Option ℕ) → x.name ≡ o → IsOther a (flat_map row_text (past_rows xs) ++ more) → IsOther a (flat_map row_text (past_rows (x ∷ xs)) ++ more)
    by None e later = subst (IsOther a) (sym (unnamed_text x xs more e)) later
    by (Some name) e later = inr (record {
      address = x.address;
      ws = name_word name ∷ may_word x.ended;
      more = flat_map row_text (past_rows xs) ++ more;
      line = past_is_line x name h.0;
      is = named_text x xs name more e;
      small = h.0.address;
      other = λ same. omega (arith, same, first, low);
    })

-- ---- first words

pub begins_some : (w : List ℕ) (ws : List (List ℕ)) (more text : List ℕ) → IsLine (w ∷ ws) → text ≡ row_text (w ∷ ws) ++ more → length text ≡ 0 → ⊥
begins_some [] [] more text h e none = let size = ap length e in omega (arith, size, none)
begins_some [] (x ∷ ws) more text h e none = let size = ap length e in omega (arith, size, none)
begins_some (b ∷ w) ws more text h e none = let size = ap length e in omega (arith, size, none)

pub other_word : (word first text : List ℕ) → NoKind word text → (length text ≡ 0 → ⊥) → ((w : List ℕ) (ws : List (List ℕ)) (more : List ℕ) → IsLine (w ∷ ws) → text ≡ row_text (w ∷ ws) ++ more → first ≡ w) → bytes_eq first word ≡ false
other_word word first text (inl none) some is = absurd (some (ap length none))
other_word word first text (inr o) some is = by (bytes_eq first word) refl
  where
    by : (b : Bool) → bytes_eq first word ≡ b → bytes_eq first word ≡ false
    by true e = absurd (o.other (sym (is o.first o.ws o.more o.line o.is) ∙ (bytes_eq-Decides first word).0 e))
    by false e = e

pub named_or : (q : Past) → (q.name ≡ None) ⊎ ((name : ℕ) × (q.name ≡ Some name))
named_or q = by (q.name) refl
  where
    by : (o : Option ℕ) → q.name ≡ o → (q.name ≡ None) ⊎ ((name : ℕ) × (q.name ≡ Some name))
    by None e = inl e
    by (Some name) e = inr (name, e)

-- ---- places of a pool

pub length-places : (from n : ℕ) (past : List Past) → map (λ (q : Past). q.address) past ≡ counting from n → length past ≡ n
length-places from zero [] e = refl
length-places from (suc n) [] e = absurd (cc)
length-places from zero (q ∷ past) e = absurd (cc)
length-places from (suc n) (q ∷ past) e =
    let more : map (λ (q : Past). q.address) past ≡ counting (from + 1) n = cc in
    let h = length-places (from + 1) n past more in
    omega (arith, h)

pub places_from : (n k from : ℕ) (past : List Past) (q : Past) → map (λ (q : Past). q.address) past ≡ counting from n → slice_get past k ≡ Some q →
    (q.address ≡ from + k) × (m : ℕ) × (map (λ (x : Past). x.address) (drop (suc k) past) ≡ counting (from + k + 1) m)
places_from n k from [] q e at = absurd (cc)
places_from zero k from (x ∷ past) q e at = absurd (cc)
places_from (suc n) zero from (x ∷ past) q e at =
    let own : x.address ≡ from = cc in
    let more : map (λ (x : Past). x.address) past ≡ counting (from + 1) n = cc in
    let same : x ≡ q = cc in
    (sym (ap (λ (y : Past). y.address) same) ∙ own ∙ (let z : from ≡ from + 0 = omega arith in z), n, more ∙ ap (λ (f : ℕ). counting f n) (let z : from + 1 ≡ from + 0 + 1 = omega arith in z))
places_from (suc n) (suc k) from (x ∷ past) q e at =
    let more : map (λ (x : Past). x.address) past ≡ counting (from + 1) n = cc in
    let h = places_from n k (from + 1) past q more at in
    (h.0 ∙ (let z : from + 1 + k ≡ from + suc k = omega arith in z), h.1, h.2 ∙ ap (λ (f : ℕ). counting f h.1) (let z : from + 1 + k + 1 ≡ from + suc k + 1 = omega arith in z))

pub drop_at : {X : Type 0} (xs : List X) (k : ℕ) (x : X) → slice_get xs k ≡ Some x → drop k xs ≡ x ∷ drop (suc k) xs
drop_at [] k x e = absurd (cc)
drop_at (y ∷ xs) zero x e = let same : y ≡ x = cc in ap (λ z. z ∷ xs) same
drop_at (y ∷ xs) (suc k) x e = drop_at xs k x e

pub ranged_from : (k : ℕ) (past : List Past) (q : Past) → ArePast past → slice_get past k ≡ Some q → ArePast (q ∷ drop (suc k) past)
ranged_from k [] q h e = absurd (cc)
ranged_from zero (x ∷ past) q h e = let same : x ≡ q = cc in (subst IsRangedPast same h.0, h.1)
ranged_from (suc k) (x ∷ past) q h e = ranged_from k past q h.1 e
