-- A written line is cut out and split into its words again.
use Rattle.std.proofs.Common.{◌≡◌, ℕ, ◌≤◌, List, [], ◌∷◌, ◌++◌, length, Bool, true, false, cond, eqb, leb, ◌&&◌, ◌||◌, map, refl, sym, ◌∙◌, ap, arith}
use Rattle.std.specs.List.{list_all, flat_map}
use Rattle.std.proofs.lemmas.List.{append_assoc}
use Rattle.std.proofs.lemmas.Bool.{leb-true, eqb-true, and_parts, ne_eqb}
use Rattle.fab_config.specs.Settings.{is_between}
use Rattle.fab_config.specs.Lines.{pieces, with_byte, without_empty_end, without_return, lines_of, is_blank, words, words_from, is_ascii}
use Rattle.fab_config.specs.Written.{spaced}
use Rattle.fab_config.proofs.LineLemmas.{some_piece, end_kept}

-- a printed sign
abbrev pub is_sign : ℕ → Bool
is_sign b = is_between 33 126 b

abbrev pub is_word : List ℕ → Bool
is_word w = list_all is_sign w

-- a byte of a line is no line feed and no carriage return
ascii_byte : (b c : ℕ) → (is_between 32 126 b || eqb b 9) ≡ true → c ≡ 10 → eqb b c ≡ false
ascii_byte b c h is = ne_eqb b c (λ e. by (is_between 32 126 b) refl (eqb b 9) refl h (e ∙ is))
  where
    by : (s : Bool) → is_between 32 126 b ≡ s → (t : Bool) → eqb b 9 ≡ t → (s || t) ≡ true → b ≡ 10 → ⊥
    by true f t g k e = let both = and_parts _ _ f in let low : 32 ≤ b = leb-true 32 b both.0 in omega (arith, low, e)
    by false f true g k e = let n : b ≡ 9 = eqb-true b 9 g in omega (arith, n, e)
    by false f false g k e = cc

ascii_byte_13 : (b : ℕ) → (is_between 32 126 b || eqb b 9) ≡ true → eqb b 13 ≡ false
ascii_byte_13 b h = ne_eqb b 13 (λ e. by (is_between 32 126 b) refl (eqb b 9) refl h e)
  where
    by : (s : Bool) → is_between 32 126 b ≡ s → (t : Bool) → eqb b 9 ≡ t → (s || t) ≡ true → b ≡ 13 → ⊥
    by true f t g k e = let both = and_parts _ _ f in let low : 32 ≤ b = leb-true 32 b both.0 in omega (arith, low, e)
    by false f true g k e = let n : b ≡ 9 = eqb-true b 9 g in omega (arith, n, e)
    by false f false g k e = cc

pieces_line : (l rest : List ℕ) → is_ascii l ≡ true → pieces (l ++ 10 ∷ rest) ≡ l ∷ pieces rest
pieces_line [] rest h = refl
pieces_line (b ∷ l) rest h =
    let both = and_parts _ _ h in
    ap (λ t. elim t as (λ _. List (List ℕ)) [ true ↦ [] ∷ pieces (l ++ 10 ∷ rest) | false ↦ with_byte b (pieces (l ++ 10 ∷ rest)) ]) (ascii_byte b 10 both.0 refl)
    ∙ ap (with_byte b) (pieces_line l rest both.1)

without_return_line : (l : List ℕ) → is_ascii l ≡ true → without_return l ≡ l
without_return_line [] h = refl
without_return_line (b ∷ []) h = ap (λ t. cond t [] (b ∷ [])) (ascii_byte_13 b (and_parts _ _ h).0)
without_return_line (b ∷ c ∷ l) h = ap (λ m. b ∷ m) (without_return_line (c ∷ l) (and_parts _ _ h).1)

-- a line feed ends a line
pub lines_line : (l rest : List ℕ) → is_ascii l ≡ true → lines_of (l ++ 10 ∷ rest) ≡ l ∷ lines_of rest
lines_line l rest h =
    ap (λ ps. map without_return (without_empty_end ps)) (pieces_line l rest h) ∙ ap (map without_return) (end_kept l (pieces rest) (some_piece rest))
    ∙ ap (λ m. m ∷ lines_of rest) (without_return_line l h)

-- ---- words

sign_no_blank : (b : ℕ) → is_sign b ≡ true → is_blank b ≡ false
sign_no_blank b h =
    let low : 33 ≤ b = leb-true 33 b (and_parts _ _ h).0 in
    ap (λ t. t || eqb b 9) (ne_eqb b 32 (λ e. omega (arith, low, e))) ∙ ne_eqb b 9 (λ e. omega (arith, low, e))

by_blank : List ℕ → ℕ → List ℕ → Bool → List (List ℕ)
by_blank w b l t = elim t as (λ _. List (List ℕ)) [
  | true ↦ cond (eqb (length w) 0) (words_from [] l) (w ∷ words_from [] l)
  | false ↦ words_from (w ++ b ∷ []) l
]

-- signs join the word
pub words_through : (acc w rest : List ℕ) → is_word w ≡ true → words_from acc (w ++ rest) ≡ words_from (acc ++ w) rest
unfolding by_blank
words_through acc [] rest h = ap (λ m. words_from m rest) (sym (Rattle.std.proofs.lemmas.List.append-nil acc))
words_through acc (b ∷ w) rest h =
    let both = and_parts _ _ h in
    ap (by_blank acc b (w ++ rest)) (sign_no_blank b both.0) ∙ words_through (acc ++ b ∷ []) w rest both.1 ∙ ap (λ m. words_from m rest) (append_assoc acc (b ∷ []) w)

-- a word, and words after one space each
abbrev pub are_words : List (List ℕ) → Bool
are_words ws = list_all (λ w. is_word w && leb 1 (length w)) ws

not_zero : (w : List ℕ) → 1 ≤ length w → eqb (length w) 0 ≡ false
not_zero w some = ne_eqb (length w) 0 (λ e. omega arith)

words_spaced : (acc : List ℕ) (ws : List (List ℕ)) → 1 ≤ length acc → are_words ws ≡ true → words_from acc (flat_map spaced ws) ≡ acc ∷ ws
words_spaced acc [] some h = ap (λ t. cond t [] (acc ∷ [])) (not_zero acc some)
words_spaced acc (w ∷ ws) some h =
    let both = and_parts _ _ h in
    let one = and_parts _ _ both.0 in
    ap (λ t. cond t (words_from [] (w ++ flat_map spaced ws)) (acc ∷ words_from [] (w ++ flat_map spaced ws))) (not_zero acc some)
    ∙ ap (λ m. acc ∷ m) (words_through [] w (flat_map spaced ws) one.0 ∙ words_spaced w ws (leb-true 1 (length w) one.1) both.1)

pub words_back : (key : List ℕ) (ws : List (List ℕ)) → is_word key ≡ true → 1 ≤ length key → are_words ws ≡ true → words (key ++ flat_map spaced ws) ≡ key ∷ ws
words_back key ws k some h = words_through [] key (flat_map spaced ws) k ∙ words_spaced key ws some h

-- and such a line holds printed signs and spaces alone
ascii_append : (l m : List ℕ) → is_ascii l ≡ true → is_ascii m ≡ true → is_ascii (l ++ m) ≡ true
ascii_append [] m h k = k
ascii_append (b ∷ l) m h k = let both = and_parts _ _ h in ap (λ c. c && is_ascii (l ++ m)) both.0 ∙ ascii_append l m both.1 k

sign_ascii : (b : ℕ) → is_sign b ≡ true → (is_between 32 126 b || eqb b 9) ≡ true
sign_ascii b h =
    let both = and_parts _ _ h in
    let low : 33 ≤ b = leb-true 33 b both.0 in
    ap (λ t. (t && leb b 126) || eqb b 9) (Rattle.std.proofs.lemmas.Bool.le-leb 32 b (omega (arith, low))) ∙ ap (λ t. t || eqb b 9) both.1

word_ascii : (w : List ℕ) → is_word w ≡ true → is_ascii w ≡ true
word_ascii [] h = refl
word_ascii (b ∷ w) h = let both = and_parts _ _ h in ap (λ c. c && is_ascii w) (sign_ascii b both.0) ∙ word_ascii w both.1

spaced_ascii : (ws : List (List ℕ)) → are_words ws ≡ true → is_ascii (flat_map spaced ws) ≡ true
spaced_ascii [] h = refl
spaced_ascii (w ∷ ws) h =
    let both = and_parts _ _ h in
    ascii_append w (flat_map spaced ws) (word_ascii w (and_parts _ _ both.0).0) (spaced_ascii ws both.1)

pub line_ascii : (key : List ℕ) (ws : List (List ℕ)) → is_word key ≡ true → are_words ws ≡ true → is_ascii (key ++ flat_map spaced ws) ≡ true
line_ascii key ws k h = ascii_append key (flat_map spaced ws) (word_ascii key k) (spaced_ascii ws h)
