-- What is written piece by piece.
use Rattle.std.proofs.Common.{◌≡◌, ℕ, suc, ◌+◌, ◌<◌, List, [], ◌∷◌, ◌++◌, length, map, drop, get_or, Option, Some, None, refl, sym, ap, subst, ◌∙◌, append_assoc, add-one, drop-cons}
use Rattle.std.specs.Prelude.{flat_map}
use Rattle.std.proofs.lemmas.List.{append-nil}
use Rattle.std.proofs.lemmas.List.Concat.{flat_map-append}
use Rattle.fab_base.specs.Fabric.{Past}
use Rattle.fab_policy.specs.Text.{then_word}
use Rattle.fab_pieces.specs.Seam.{Seam, head_rows, login_row, past_row, past_rows, port_rows, rest_text, row_text, seam_text}
use Rattle.fab_state.specs.Rows.{then_words}

-- pieces behind one another are one piece
pub two_pieces : (o a b o1 o2 : List ℕ) → o1 ≡ o ++ a → o2 ≡ o1 ++ b → o2 ≡ o ++ (a ++ b)
two_pieces o a b o1 o2 e f = f ∙ ap (λ l. l ++ b) e ∙ append_assoc o a b

pub three_pieces : (o a b c o1 o2 o3 : List ℕ) → o1 ≡ o ++ a → o2 ≡ o1 ++ b → o3 ≡ o2 ++ c → o3 ≡ o ++ (a ++ (b ++ c))
three_pieces o a b c o1 o2 o3 e f g = two_pieces o a (b ++ c) o1 o3 e (two_pieces o1 b c o2 o3 f g)

pub four_pieces : (o a b c d o1 o2 o3 o4 : List ℕ) → o1 ≡ o ++ a → o2 ≡ o1 ++ b → o3 ≡ o2 ++ c → o4 ≡ o3 ++ d → o4 ≡ o ++ (a ++ (b ++ (c ++ d)))
four_pieces o a b c d o1 o2 o3 o4 e f g h = two_pieces o a (b ++ (c ++ d)) o1 o4 e (three_pieces o1 b c d o2 o3 o4 f g h)

pub five_pieces : (o a b c d k o1 o2 o3 o4 o5 : List ℕ) → o1 ≡ o ++ a → o2 ≡ o1 ++ b → o3 ≡ o2 ++ c → o4 ≡ o3 ++ d → o5 ≡ o4 ++ k → o5 ≡ o ++ (a ++ (b ++ (c ++ (d ++ k))))
five_pieces o a b c d k o1 o2 o3 o4 o5 e f g h i = two_pieces o a (b ++ (c ++ (d ++ k))) o1 o5 e (four_pieces o1 b c d k o2 o3 o4 o5 f g h i)

-- the same with nothing behind the last
pub five_words : (o a b c d k o1 o2 o3 o4 o5 : List ℕ) → o1 ≡ o ++ a → o2 ≡ o1 ++ b → o3 ≡ o2 ++ c → o4 ≡ o3 ++ d → o5 ≡ o4 ++ k → o5 ≡ o ++ (a ++ (b ++ (c ++ (d ++ (k ++ [])))))
five_words o a b c d k o1 o2 o3 o4 o5 e f g h i = five_pieces o a b c d (k ++ []) o1 o2 o3 o4 o5 e f g h (i ∙ ap (λ l. o4 ++ l) (sym (append-nil k)))

-- the lines of one address more
pub past_more : (q : Past) (more : List Past) → flat_map row_text (past_rows (q ∷ more)) ≡ flat_map row_text (past_rows (q ∷ [])) ++ flat_map row_text (past_rows more)
past_more q more = by (q.name)
  where
    rows : Option ℕ → List Past → List (List (List ℕ))
    rows o qs = elim o as (λ _. List (List (List ℕ))) [ None ↦ past_rows qs | Some name ↦ past_row q name ∷ past_rows qs ]

    by : (o : Option ℕ) → flat_map row_text (rows o more) ≡ flat_map row_text (rows o []) ++ flat_map row_text (past_rows more)
    by None = refl
    by (Some name) = ap (λ l. l ++ flat_map row_text (past_rows more)) (sym (append-nil (row_text (past_row q name))))

-- the line of an address that a name had
pub had_some : (q : Past) (name : ℕ) → q.name ≡ Some name → row_text (past_row q name) ≡ flat_map row_text (past_rows (q ∷ []))
had_some q name e = by (q.name) e
  where
    by : (o : Option ℕ) → o ≡ Some name → row_text (past_row q name) ≡ flat_map row_text (elim o as (λ _. List (List (List ℕ))) [ None ↦ [] | Some n ↦ past_row q n ∷ [] ])
    by None e = absurd (cc)
    by (Some n) e = ap (λ m. row_text (past_row q m)) (let same : name ≡ n = cc in same) ∙ sym (append-nil (row_text (past_row q n)))

-- ---- words

-- one word more in front
pub words_more : (o o1 o2 w : List ℕ) (ws : List (List ℕ)) → o1 ≡ o ++ then_word w → o2 ≡ o1 ++ then_words ws → o2 ≡ o ++ then_words (w ∷ ws)
words_more o o1 o2 w ws e f = two_pieces o (then_word w) (then_words ws) o1 o2 e f

pub last_word : (o o1 w : List ℕ) → o1 ≡ o ++ then_word w → o1 ≡ o ++ then_words (w ∷ [])
last_word o o1 w e = e ∙ ap (λ l. o ++ l) (sym (append-nil (then_word w)))

-- what stands behind the first word of a line, with one word more in front, and with several
pub more_word : (o o1 o2 w : List ℕ) (ws : List (List ℕ)) → o1 ≡ o ++ then_word w → o2 ≡ o1 ++ rest_text ws → o2 ≡ o ++ rest_text (w ∷ ws)
more_word o o1 o2 w ws e f = two_pieces o (then_word w) (rest_text ws) o1 o2 e f

rest_both : (ws vs : List (List ℕ)) → then_words ws ++ rest_text vs ≡ rest_text (ws ++ vs)
rest_both [] vs = refl
rest_both (w ∷ ws) vs = append_assoc (then_word w) (then_words ws) (rest_text vs) ∙ ap (λ l. then_word w ++ l) (rest_both ws vs)

pub more_words : (o o1 o2 : List ℕ) (ws vs : List (List ℕ)) → o1 ≡ o ++ then_words ws → o2 ≡ o1 ++ rest_text vs → o2 ≡ o ++ rest_text (ws ++ vs)
more_words o o1 o2 ws vs e f = two_pieces o (then_words ws) (rest_text vs) o1 o2 e f ∙ ap (λ l. o ++ l) (rest_both ws vs)

pub whole_line : (o o1 o2 w : List ℕ) (ws : List (List ℕ)) → o1 ≡ o ++ w → o2 ≡ o1 ++ rest_text ws → o2 ≡ o ++ row_text (w ∷ ws)
whole_line o o1 o2 w ws e f = two_pieces o w (rest_text ws) o1 o2 e f

-- ---- lines

-- one line more of a list
pub rows_more : {X : Type 0} (f : X → List (List ℕ)) (xs ys : List X) (i : ℕ) (x : X) (old new start : List ℕ) → ys ≡ xs → i < length ys → x ≡ get_or ys i x →
    old ++ flat_map row_text (map f (drop i xs)) ≡ start ++ flat_map row_text (map f xs) → new ≡ old ++ row_text (f x) →
    new ++ flat_map row_text (map f (drop (i + 1) xs)) ≡ start ++ flat_map row_text (map f xs)
rows_more f xs ys i x old new start same low is so now =
    let there : i < length xs = subst (λ l. i < length l) same low in
    let item : x ≡ get_or xs i x = is ∙ ap (λ l. get_or l i x) same in
    let next : drop i xs ≡ x ∷ drop (i + 1) xs = drop-cons xs i x there ∙ ap (λ y. y ∷ drop (suc i) xs) (sym item) ∙ ap (λ k. x ∷ drop k xs) (sym (add-one i)) in
    ap (λ l. l ++ flat_map row_text (map f (drop (i + 1) xs))) now ∙ append_assoc old (row_text (f x)) (flat_map row_text (map f (drop (i + 1) xs)))
    ∙ ap (λ l. old ++ flat_map row_text (map f l)) (sym next) ∙ so

-- the parts of a seam
pub seam_pieces : (s : Seam) (o o1 o2 o3 o4 : List ℕ) → o ≡ [] → o1 ≡ o ++ flat_map row_text (head_rows s) → o2 ≡ o1 ++ flat_map row_text (port_rows 1 s.nexts) →
    o3 ≡ o2 ++ flat_map row_text (past_rows s.state.tables.past) → o4 ≡ o3 ++ flat_map row_text (map login_row s.state.tables.ports) → o4 ≡ seam_text s
unfolding seam_text
seam_pieces s o o1 o2 o3 o4 none e f g h =
    let heads = head_rows s in
    let nexts = port_rows 1 s.nexts in
    let pasts = past_rows s.state.tables.past in
    let logins = map login_row s.state.tables.ports in
    four_pieces o (flat_map row_text heads) (flat_map row_text nexts) (flat_map row_text pasts) (flat_map row_text logins) o1 o2 o3 o4 e f g h
    ∙ ap (λ l. l ++ (flat_map row_text heads ++ (flat_map row_text nexts ++ (flat_map row_text pasts ++ flat_map row_text logins)))) none
    ∙ sym (flat_map-append row_text heads (nexts ++ (pasts ++ logins))
    ∙ ap (λ l. flat_map row_text heads ++ l) (flat_map-append row_text nexts (pasts ++ logins) ∙ ap (λ l. flat_map row_text nexts ++ l) (flat_map-append row_text pasts logins)))
