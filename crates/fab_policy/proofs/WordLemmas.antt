-- Words of a line: where one ends, and what their digits are.
use Rattle.std.proofs.Common.{◌≡◌, ℕ, zero, suc, ◌+◌, ◌-◌, ◌*◌, ◌/◌, ◌%◌, ◌^◌, ◌<◌, ◌≤◌, Bool, true, false, cond, nat_lt, ◌&&◌, List, [], ◌∷◌, ◌++◌, refl, sym, ◌∙◌, ap, append_assoc, decimal, arith}
use Rattle.std.specs.List.{list_all}
use Rattle.std.specs.Str.Parse.{AllDigits, digits_value}
use Rattle.std.proofs.lemmas.Str.Parse.{digit_from_value}
use Rattle.std.proofs.lemmas.Fmt.{decimal_is_IsNumeral}
use Rattle.fab_policy.specs.Text.{SPACE, LINE_FEED}
use Rattle.fab_base.specs.Texts.{hex, hex_digit}
use Rattle.fab_policy.specs.Private.LineWords.{is_inside, IsWord, Ends, rest_of}

-- ---- where a word ends

-- words with single spaces between them, and a line feed
abbrev pub text_of : List (List ℕ) → List ℕ
text_of [] = []
text_of (w ∷ more) = w ++ rest_of more

pub and_left : (p q : Bool) → (p && q) ≡ true → p ≡ true
and_left true q h = refl
and_left false q h = h

pub and_right : (p q : Bool) → (p && q) ≡ true → q ≡ true
and_right true q h = h
and_right false q h = absurd (cc)

-- a word is cut off in one way
pub cut_once : (w x m n : List ℕ) → IsWord w → IsWord x → Ends m → Ends n → w ++ m ≡ x ++ n → (w ≡ x) × (m ≡ n)
cut_once [] [] m n w_is x_is m_ends n_ends e = (refl, e)
cut_once [] (b ∷ x) [] n w_is x_is m_ends n_ends e = absurd (cc)
cut_once [] (b ∷ x) (c ∷ m) n w_is x_is m_ends n_ends e = let inside = and_left (is_inside b) (list_all is_inside x) x_is in absurd (let same : c ≡ b = cc in cc (ap is_inside same))
cut_once (b ∷ w) [] m [] w_is x_is m_ends n_ends e = absurd (cc)
cut_once (b ∷ w) [] m (c ∷ n) w_is x_is m_ends n_ends e = let inside = and_left (is_inside b) (list_all is_inside w) w_is in absurd (let same : b ≡ c = cc in cc (ap is_inside same))
cut_once (b ∷ w) (c ∷ x) m n w_is x_is m_ends n_ends e =
    let more = cut_once w x m n (and_right (is_inside b) (list_all is_inside w) w_is) (and_right (is_inside c) (list_all is_inside x) x_is) m_ends n_ends (let tails : w ++ m ≡ x ++ n = cc in tails) in
    let same : b ≡ c = cc in
    (let words : w ≡ x = more.0 in cc, more.1)

abbrev pub AreWords : List (List ℕ) → Type 0
AreWords [] = Unit {0}
AreWords (w ∷ more) = IsWord w × AreWords more

rest_ends_then : (ws : List (List ℕ)) (r : List ℕ) → Ends (rest_of ws ++ r)
rest_ends_then [] r = refl
rest_ends_then (w ∷ ws) r = refl

pub rest_ends : (ws : List (List ℕ)) → Ends (rest_of ws)
rest_ends [] = refl
rest_ends (w ∷ ws) = refl

-- what is behind a word says which words follow
pub rest_once : (ws xs : List (List ℕ)) (r s : List ℕ) → AreWords ws → AreWords xs → rest_of ws ++ r ≡ rest_of xs ++ s → (ws ≡ xs) × (r ≡ s)
rest_once [] [] r s ws_are xs_are e = (refl, let same : r ≡ s = cc in same)
rest_once [] (x ∷ xs) r s ws_are xs_are e = absurd (let differ : LINE_FEED ≡ SPACE = cc in cc)
rest_once (w ∷ ws) [] r s ws_are xs_are e = absurd (let differ : SPACE ≡ LINE_FEED = cc in cc)
rest_once (w ∷ ws) (x ∷ xs) r s ws_are xs_are e =
    let inner : (w ++ rest_of ws) ++ r ≡ (x ++ rest_of xs) ++ s = cc in
    let cut = cut_once w x (rest_of ws ++ r) (rest_of xs ++ s) ws_are.0 xs_are.0 (rest_ends_then ws r) (rest_ends_then xs s) (sym (append_assoc w (rest_of ws) r) ∙ inner ∙ append_assoc x (rest_of xs) s) in
    let more = rest_once ws xs r s ws_are.1 xs_are.1 cut.1 in
    (let first : w ≡ x = cut.0 in let others : ws ≡ xs = more.0 in cc, more.1)

-- a text of words, and what follows it, say which words they are
pub text_once : (w x : List ℕ) (ws xs : List (List ℕ)) (r s : List ℕ) → AreWords (w ∷ ws) → AreWords (x ∷ xs) → text_of (w ∷ ws) ++ r ≡ text_of (x ∷ xs) ++ s → (w ∷ ws ≡ x ∷ xs) × (r ≡ s)
text_once w x ws xs r s ws_are xs_are e =
    let cut = cut_once w x (rest_of ws ++ r) (rest_of xs ++ s) ws_are.0 xs_are.0 (rest_ends_then ws r) (rest_ends_then xs s) (sym (append_assoc w (rest_of ws) r) ∙ e ∙ append_assoc x (rest_of xs) s) in
    let more = rest_once ws xs r s ws_are.1 xs_are.1 cut.1 in
    (let first : w ≡ x = cut.0 in let others : ws ≡ xs = more.0 in cc, more.1)

-- ---- numbers

inside_above : (b : ℕ) → 33 ≤ b → is_inside b ≡ true
inside_above b above = grind arith

digits_inside : (ds : List ℕ) → AllDigits 10 ds → IsWord ds
digits_inside [] digits = refl
digits_inside (c ∷ cs) digits =
    let range = digit_from_value c digits.0 in
    let first : is_inside c ≡ true = inside_above c (omega (arith, range)) in
    let others : list_all is_inside cs ≡ true = digits_inside cs digits.1 in
    ap (λ p. p && list_all is_inside cs) first ∙ others

pub decimal_inside : (n : ℕ) → n < 2 ^ 64 → IsWord (decimal n)
decimal_inside n small = digits_inside (decimal n) (decimal_is_IsNumeral n small).0.1

pub inside_append : (l m : List ℕ) → IsWord l → IsWord m → IsWord (l ++ m)
inside_append [] m l_is m_is = m_is
inside_append (b ∷ l) m l_is m_is =
    ap (λ p. p && list_all is_inside (l ++ m)) (and_left (is_inside b) (list_all is_inside l) l_is) ∙ inside_append l m (and_right (is_inside b) (list_all is_inside l) l_is) m_is

digit_above : (d : ℕ) → 33 ≤ hex_digit d
digit_above d = grind arith

pub hex_inside : (k n : ℕ) → IsWord (hex k n)
hex_inside zero n = refl
hex_inside (suc k) n =
    inside_append (hex k (n / 16)) (hex_digit (n % 16) ∷ []) (hex_inside k (n / 16)) (ap (λ p. p && true) (inside_above (hex_digit (n % 16)) (digit_above (n % 16))))

-- the value of hexadecimal digits
abbrev pub digit_of : ℕ → ℕ
digit_of c = cond (nat_lt c 58) (c - 48) (c - 87)

abbrev pub hex_after : ℕ → List ℕ → ℕ
hex_after n [] = n
hex_after n (c ∷ cs) = hex_after (16 * n + digit_of c) cs

hex_after-push : (l : List ℕ) (n c : ℕ) → hex_after n (l ++ c ∷ []) ≡ 16 * hex_after n l + digit_of c
hex_after-push [] n c = refl
hex_after-push (b ∷ l) n c = hex_after-push l (16 * n + digit_of b) c

digit_of-hex_digit : (d : ℕ) → d < 16 → digit_of (hex_digit d) ≡ d
digit_of-hex_digit d small = grind arith

pub hex_after-hex : (k n : ℕ) → n < 16 ^ k → hex_after 0 (hex k n) ≡ n
hex_after-hex zero n small = let none : n ≡ 0 = omega arith in sym none
hex_after-hex (suc k) n small =
    let power : 16 ^ suc k ≡ 16 * 16 ^ k = grind arith in
    let front : hex_after 0 (hex k (n / 16)) ≡ n / 16 = hex_after-hex k (n / 16) (omega arith) in
    let last : digit_of (hex_digit (n % 16)) ≡ n % 16 = digit_of-hex_digit (n % 16) (omega arith) in
    hex_after-push (hex k (n / 16)) 0 (hex_digit (n % 16)) ∙ ap (λ (m : ℕ). 16 * m + digit_of (hex_digit (n % 16))) front
    ∙ ap (λ (m : ℕ). 16 * (n / 16) + m) last ∙ (let whole : 16 * (n / 16) + n % 16 ≡ n = omega arith in whole)

pub digits_value-decimal : (n : ℕ) → n < 2 ^ 64 → digits_value 10 (decimal n) ≡ n
digits_value-decimal n small = (decimal_is_IsNumeral n small).1
