-- The parts of a seam's text, and where two texts differ.
use Rattle.std.proofs.Common.{◌≡◌, ◌≢◌, ℕ, zero, suc, ◌+◌, ◌<◌, ◌≤◌, Bool, true, false, List, [], ◌∷◌, ◌++◌, length, drop, get_or, map, min, length-append, length-drop, Option, Some, None, refl, sym, ap, subst, ◌∙◌, append_assoc, append-nil, add-one, drop-cons, arith, inl, inr, eq-eqb, ne_eqb, cond}
use Rattle.std.specs.Prelude.{codes, flat_map}
use Rattle.std.proofs.Math.ListN.{drop_of_length-le}
use Rattle.std.proofs.lemmas.List.Concat.{flat_map-append}
use Rattle.fab_base.specs.Fabric.{Past}
use Rattle.fab_policy.specs.State.{LivePort}
use Rattle.fab_pieces.specs.Seam.{IsRangedSeam, Seam, head_rows, login_row, past_row, past_rows, port_rows, row_text, rows_of, seam_text}
use Rattle.fab_state.specs.Readable.{AreReadPorts, NoAddress}
use Rattle.fab_state.specs.Reading.{line_feeds, other_line}
use Rattle.fab_state.specs.Words.{AreLines}
use Rattle.fab_state.proofs.LeftLemmas.{login_words}
use Rattle.fab_state.proofs.LineLemmas.{login_is_line}
use Rattle.fab_state.proofs.SeamReadLemmas.{all_lines}

-- ---- parts

pub both_lines : (xs ys : List (List (List ℕ))) → AreLines (xs ++ ys) → AreLines xs × AreLines ys
both_lines [] ys h = (tt, h)
both_lines (x ∷ xs) ys h = let more = both_lines xs ys h.1 in ((h.0, more.0), more.1)

-- the rows in front of the addresses, and the others
front_rows : (s : Seam) → rows_of s ≡ (head_rows s ++ port_rows 1 s.nexts) ++ (past_rows s.state.tables.past ++ map login_row s.state.tables.ports)
front_rows s = sym (append_assoc (head_rows s) (port_rows 1 s.nexts) (past_rows s.state.tables.past ++ map login_row s.state.tables.ports))

pub front_lines : (s : Seam) → IsRangedSeam s → AreLines ((head_rows s ++ port_rows 1 s.nexts) ++ (past_rows s.state.tables.past ++ map login_row s.state.tables.ports))
front_lines s h = subst AreLines (front_rows s) (all_lines s h)

pub seam_all : (s : Seam) (text : List ℕ) → text ≡ seam_text s → text ≡ flat_map row_text (rows_of s) ++ []
unfolding seam_text
seam_all s text e = e ∙ sym (append-nil (flat_map row_text (rows_of s)))

two_parts : (xs ys : List (List (List ℕ))) (more : List ℕ) → flat_map row_text (xs ++ ys) ++ more ≡ flat_map row_text xs ++ (flat_map row_text ys ++ more)
two_parts xs ys more = ap (λ l. l ++ more) (flat_map-append row_text xs ys) ∙ append_assoc (flat_map row_text xs) (flat_map row_text ys) more

pub seam_front : (s : Seam) (text : List ℕ) → text ≡ flat_map row_text (rows_of s) ++ [] →
    text ≡ flat_map row_text (head_rows s ++ port_rows 1 s.nexts) ++ (flat_map row_text (past_rows s.state.tables.past) ++ (flat_map row_text (map login_row s.state.tables.ports) ++ []))
seam_front s text e =
    let front = head_rows s ++ port_rows 1 s.nexts in
    let pasts = past_rows s.state.tables.past in
    let logins = map login_row s.state.tables.ports in
    e ∙ ap (λ rows. flat_map row_text rows ++ []) (front_rows s) ∙ two_parts front (pasts ++ logins) [] ∙ ap (λ l. flat_map row_text front ++ l) (two_parts pasts logins [])

length-port_rows : (k : ℕ) (ns : List ℕ) → length (port_rows k ns) ≡ length ns
length-port_rows k [] = refl
length-port_rows k (n ∷ ns) = let h = length-port_rows (k + 1) ns in omega (arith, h)

pub front_length : (s : Seam) (n : ℕ) → length s.nexts ≡ n → length (head_rows s ++ port_rows 1 s.nexts) ≡ n + 5
front_length s n e = let size = length-port_rows 1 s.nexts in omega (arith, size, e)

pub no_address : (ports : List LivePort) → AreReadPorts ports → NoAddress (flat_map row_text (map login_row ports) ++ [])
no_address [] h = inl refl
no_address (p ∷ ports) h = inr (record {
  first = codes "login";
  ws = login_words p;
  more = flat_map row_text (map login_row ports) ++ [];
  line = login_is_line p h.0;
  is = append_assoc (row_text (login_row p)) (flat_map row_text (map login_row ports)) [];
  other = λ e. let size = ap length e in omega (arith, size);
})

-- ---- how many addresses have a line

pub one_named : (q : Past) (name : ℕ) → q.name ≡ Some name → 1 ≡ length (past_rows (q ∷ []))
one_named q name e = by (q.name) e
  where
    by : (o : Option ℕ) → o ≡ Some name → 1 ≡ length (elim o as (λ _. List (List (List ℕ))) [ None ↦ [] | Some n ↦ past_row q n ∷ [] ])
    by None e = absurd (cc)
    by (Some n) e = refl

pub none_named : (q : Past) → q.name ≡ None → 0 ≡ length (past_rows (q ∷ []))
none_named q e = by (q.name) e
  where
    by : (o : Option ℕ) → o ≡ None → 0 ≡ length (elim o as (λ _. List (List (List ℕ))) [ None ↦ [] | Some n ↦ past_row q n ∷ [] ])
    by None e = refl
    by (Some n) e = absurd (cc)

length-past_more : (q : Past) (more : List Past) → length (past_rows (q ∷ more)) ≡ length (past_rows (q ∷ [])) + length (past_rows more)
length-past_more q more = by (q.name)
  where
    rows : Option ℕ → List Past → List (List (List ℕ))
    rows o qs = elim o as (λ _. List (List (List ℕ))) [ None ↦ past_rows qs | Some name ↦ past_row q name ∷ past_rows qs ]

    by : (o : Option ℕ) → length (rows o more) ≡ length (rows o []) + length (past_rows more)
    by None = omega arith
    by (Some name) = omega arith

pub named_more : (xs ys : List Past) (i : ℕ) (q : Past) → ys ≡ xs → i < length ys → q ≡ get_or ys i q →
    length (past_rows (drop i xs)) ≡ length (past_rows (q ∷ [])) + length (past_rows (drop (i + 1) xs))
named_more xs ys i q same low is =
    let there : i < length xs = subst (λ l. i < length l) same low in
    let item : q ≡ get_or xs i q = is ∙ ap (λ l. get_or l i q) same in
    let next : drop i xs ≡ q ∷ drop (i + 1) xs = drop-cons xs i q there ∙ ap (λ y. y ∷ drop (suc i) xs) (sym item) ∙ ap (λ k. q ∷ drop k xs) (sym (add-one i)) in
    ap (λ l. length (past_rows l)) next ∙ length-past_more q (drop (i + 1) xs)

-- ---- where two texts differ

pub other_same : (w t : List ℕ) (k : ℕ) → k < length w → k < length t → get_or w k 0 ≡ get_or t k 0 →
    other_line (drop k w) (drop k t) ≡ line_feeds (get_or t k 0) + other_line (drop (k + 1) w) (drop (k + 1) t)
other_same w t k low_w low_t e =
    ap (λ l. other_line l (drop k t)) (drop-cons w k 0 low_w) ∙ ap (other_line (get_or w k 0 ∷ drop (suc k) w)) (drop-cons t k 0 low_t)
    ∙ ap (λ b. cond b (line_feeds (get_or t k 0) + other_line (drop (suc k) w) (drop (suc k) t)) 1) (eq-eqb (get_or w k 0) (get_or t k 0) e)
    ∙ ap (λ (m : ℕ). line_feeds (get_or t k 0) + other_line (drop m w) (drop m t)) (sym (add-one k))

pub other_differs : (w t : List ℕ) (k : ℕ) → k < length w → k < length t → (get_or w k 0 ≡ get_or t k 0 → ⊥) → other_line (drop k w) (drop k t) ≡ 1
other_differs w t k low_w low_t e =
    ap (λ l. other_line l (drop k t)) (drop-cons w k 0 low_w) ∙ ap (other_line (get_or w k 0 ∷ drop (suc k) w)) (drop-cons t k 0 low_t)
    ∙ ap (λ b. cond b (line_feeds (get_or t k 0) + other_line (drop (suc k) w) (drop (suc k) t)) 1) (ne_eqb (get_or w k 0) (get_or t k 0) e)

none_left : (l m : List ℕ) → min (length l) (length m) ≡ 0 → other_line l m ≡ 1
none_left [] m e = refl
none_left (x ∷ l) [] e = refl
none_left (x ∷ l) (y ∷ m) e = absurd (omega (arith, e))

pub other_over : (w t : List ℕ) (k : ℕ) → min (length w) (length t) ≤ k → other_line (drop k w) (drop k t) ≡ 1
other_over w t k over = none_left (drop k w) (drop k t) (let a = length-drop k w in let b = length-drop k t in omega (arith, a, b, over))
