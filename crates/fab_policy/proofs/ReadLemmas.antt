-- Reading words.
use Rattle.std.proofs.Common.{◌≡◌, ◌≢◌, ℕ, zero, suc, ◌+◌, ◌*◌, ◌/◌, ◌%◌, ◌^◌, ◌<◌, ◌≤◌, true, ◌&&◌, List, [], ◌∷◌, ◌++◌, length, length-append, take, get_or, slice_index, Option, Some, None, IfSome, IfNone, refl, sym, ◌∙◌, ap, subst, decimal, arith, add-one}
use Rattle.std.specs.Str.Parse.{AllDigits, digits_value, IsNumeral, without_leading_plus}
use Rattle.std.proofs.lemmas.Fmt.{decimal_is_IsNumeral, decimal_digit, first_decimal, decimal_injective, decimal-digits_value, IsAscii-decimal}
use Rattle.std.proofs.lemmas.List.{take_more}
use Rattle.std.proofs.lemmas.Str.{IsUtf8-from_ascii}
use Rattle.std.proofs.lemmas.Str.Parse.{digit_at, numerals_by_value, tells_digits, without_leading_plus_none}
use Rattle.std.specs.Str.{IsUtf8}
use Rattle.fab_policy.specs.Private.LineWords.{Finds, is_inside, IsShortest, IsWord, SpellNone}
use Rattle.fab_policy.specs.Text.{ALL_RULES, rule_word}
use Rattle.fab_base.specs.Texts.{hex, hex_digit}
use Rattle.fab_policy.specs.declared.verdict.Rule.{Rule}
use Rattle.fab_policy.proofs.RuleLemmas.{none_of_all}
use Rattle.fab_policy.proofs.WordLemmas.{inside_append}

-- ---- numbers

zero_or_more : (n : ℕ) → n < 2 ^ 64 → slice_index (decimal n) 0 ≡ 48 → length (decimal n) ≡ 1
zero_or_more zero small first = ap length (decimal_digit 0 (omega arith))
zero_or_more (suc n) small first = absurd (let above = first_decimal (suc n) (omega arith) small in omega (arith, above, first))

pub shortest : (n : ℕ) → n < 2 ^ 64 → IsShortest (decimal n)
shortest n small =
    let form = (decimal_is_IsNumeral n small).0 in
    record {
      some = form.0;
      no_sign = λ e. (let range = digit_at (decimal n) 0 form.1 form.0 in omega (arith, range, e));
      no_zero = zero_or_more n small;
    }

-- a word with a sign or a needless zero spells no number
pub not_shortest : (w : List ℕ) → (IsShortest w → ⊥) → (n : ℕ) → (n < 2 ^ 64) × (w ≡ decimal n) → ⊥
not_shortest w not n is = not (let P : List ℕ → Type 0 = IsShortest in subst P (sym is.1) (shortest n is.0))

-- one that is no text spells none
pub not_text : (w : List ℕ) → (IsUtf8 w → ⊥) → (n : ℕ) → (n < 2 ^ 64) × (w ≡ decimal n) → ⊥
not_text w not n is = not (let P : List ℕ → Type 0 = IsUtf8 in subst P (sym is.1) (IsUtf8-from_ascii (decimal n) (IsAscii-decimal n is.0)))

plain : (w : List ℕ) → IsShortest w → without_leading_plus w ≡ w
plain w short = without_leading_plus_none w short.no_sign

-- what is read as a number spells it
pub parsed : (w : List ℕ) (x : ℕ) → IsShortest w → (IsNumeral 10 (without_leading_plus w) × (digits_value 10 (without_leading_plus w) < 2 ^ 64)) × (x ≡ digits_value 10 (without_leading_plus w)) →
    (x < 2 ^ 64) × (w ≡ decimal x)
parsed w x short h =
    let P : List ℕ → Type 0 = λ l. IsNumeral 10 l × (digits_value 10 l < 2 ^ 64) × (x ≡ digits_value 10 l) in
    let at : P w = subst P (plain w short) (h.0.0, h.0.1, h.1) in
    let back : decimal (digits_value 10 w) ≡ w = decimal-digits_value (numerals_by_value (AllDigits 10) tells_digits) w at.0.1 short.some short.no_zero at.1 in
    (omega (arith, at.1, at.2), sym back ∙ ap decimal (sym at.2))

-- what isn't read as a number spells none
pub not_parsed : (w : List ℕ) → IsShortest w → (IsNumeral 10 (without_leading_plus w) × (digits_value 10 (without_leading_plus w) < 2 ^ 64) → ⊥) → (n : ℕ) → (n < 2 ^ 64) × (w ≡ decimal n) → ⊥
not_parsed w short not n is =
    let P : List ℕ → Type 0 = λ l. IsNumeral 10 l × (digits_value 10 l < 2 ^ 64) in
    let number = decimal_is_IsNumeral n is.0 in
    let there : P (decimal n) = (number.0, omega (arith, number.1, is.0)) in
    not (subst P (sym (plain w short)) (subst P (sym is.1) there))

-- a word spells one number
pub other_number : (w : List ℕ) (m : ℕ) → (m < 2 ^ 64) × (w ≡ decimal m) → (n : ℕ) → n < 2 ^ 64 → w ≡ decimal n → n ≡ m
other_number w m is n small e = decimal_injective n m small is.0 (sym e ∙ is.1)

-- a number above the greatest one
pub no_number_above : (w : List ℕ) (m most : ℕ) → (m < 2 ^ 64) × (w ≡ decimal m) → most < m → (n : ℕ) → (n ≤ most) × (w ≡ decimal n) → ⊥
no_number_above w m most is large n number = let same = other_number w m is n (omega (arith, number.0, large, is.0)) number.1 in omega (arith, same, number.0, large)

-- the port of a number
pub port_found : (w : List ℕ) (m : ℕ) (r : Option ℕ) → (m < 2 ^ 64) × (w ≡ decimal m) → Finds (λ p. (1 ≤ p) × (p ≤ 64) × (p ≡ m)) r → Finds (λ p. (1 ≤ p) × (p ≤ 64) × (w ≡ decimal p)) r
port_found w m None is none = λ p port. none p (port.0, port.1, other_number w m is p (omega (arith, port.1)) port.2)
port_found w m (Some p) is some = (some.0, some.1, is.1 ∙ ap decimal (sym some.2))

-- ---- where a word ends

pub inside_one_more : (w : List ℕ) (i : ℕ) → i < length w → IsWord (take i w) → is_inside (slice_index w i) ≡ true → IsWord (take (i + 1) w)
inside_one_more w i here before inside =
    let P : List ℕ → Type 0 = IsWord in subst P (sym (take_more w i 0 here)) (inside_append (take i w) (slice_index w i ∷ []) before (ap (λ p. p && true) inside))

-- ---- hexadecimal digits

pub hex_one_more : (w : List ℕ) (i v d : ℕ) → i < length w → take i w ≡ hex i v → d < 16 → slice_index w i ≡ hex_digit d → take (i + 1) w ≡ hex (i + 1) (16 * v + d)
hex_one_more w i v d here before small is =
    let front : (16 * v + d) / 16 ≡ v = omega arith in
    let last : (16 * v + d) % 16 ≡ d = omega arith in
    take_more w i 0 here ∙ ap (λ l. l ++ slice_index w i ∷ []) before ∙ ap (λ (b : ℕ). hex i v ++ b ∷ []) is
    ∙ ap (λ (m : ℕ). hex i m ++ hex_digit d ∷ []) (sym front) ∙ ap (λ (m : ℕ). hex i ((16 * v + d) / 16) ++ hex_digit m ∷ []) (sym last)
    ∙ ap (λ (k : ℕ). hex k (16 * v + d)) (sym (add-one i))

pub power_more : (i v d : ℕ) → v < 16 ^ i → d < 16 → 16 * v + d < 16 ^ (i + 1)
power_more i v d small digit = let power : 16 ^ suc i ≡ 16 * 16 ^ i = grind arith in let same : 16 ^ (i + 1) ≡ 16 ^ suc i = ap (λ (k : ℕ). 16 ^ k) (add-one i) in omega arith

-- a value of few digits is small
pub few_digits : (i v : ℕ) → i < 6 → v < 16 ^ i → v < 16 ^ 5
few_digits zero v few small = omega arith
few_digits (suc zero) v few small = omega arith
few_digits (suc (suc zero)) v few small = omega arith
few_digits (suc (suc (suc zero))) v few small = omega arith
few_digits (suc (suc (suc (suc zero)))) v few small = omega arith
few_digits (suc (suc (suc (suc (suc zero))))) v few small = omega arith
few_digits (suc (suc (suc (suc (suc (suc i)))))) v few small = absurd (omega arith)

abbrev AreDigits : List ℕ → Type 0
AreDigits [] = Unit {0}
AreDigits (b ∷ l) = ((d : ℕ) × (d < 16) × (b ≡ hex_digit d)) × AreDigits l

digits_push : (l : List ℕ) (d : ℕ) → AreDigits l → d < 16 → AreDigits (l ++ hex_digit d ∷ [])
digits_push [] d before small = ((d, small, refl), tt)
digits_push (b ∷ l) d before small = (before.0, digits_push l d before.1 small)

hex_digits : (k n : ℕ) → AreDigits (hex k n)
hex_digits zero n = tt
hex_digits (suc k) n = digits_push (hex k (n / 16)) (n % 16) (hex_digits k (n / 16)) (omega arith)

digit_in : (l : List ℕ) (i : ℕ) → i < length l → AreDigits l → (d : ℕ) × (d < 16) × (slice_index l i ≡ hex_digit d)
digit_in [] i here digits = absurd (omega arith)
digit_in (b ∷ l) zero here digits = digits.0
digit_in (b ∷ l) (suc i) here digits = digit_in l i (omega arith) digits.1

-- a byte that is no digit stands in no such number
pub no_digit : (w : List ℕ) (i : ℕ) → i < length w → ((d : ℕ) → (d < 16) × (slice_index w i ≡ hex_digit d) → ⊥) → (n : ℕ) → (n < 16 ^ length w) × (w ≡ hex (length w) n) → ⊥
no_digit w i here not n is =
    let P : List ℕ → Type 0 = AreDigits in
    let digit = digit_in w i here (subst P (sym is.1) (hex_digits (length w) n)) in
    not digit.0 (digit.1, digit.2)

hex_long : (k n : ℕ) → length (hex k n) ≡ k
hex_long zero n = refl
hex_long (suc k) n = length-append (hex k (n / 16)) (hex_digit (n % 16) ∷ []) ∙ ap (λ (m : ℕ). m + 1) (hex_long k (n / 16)) ∙ add-one k

-- a word of another length
pub other_length : (w : List ℕ) (k : ℕ) → length w ≢ k → (n : ℕ) → (n < 16 ^ k) × (w ≡ hex k n) → ⊥
other_length w k other n is = other (ap length is.1 ∙ hex_long k n)

-- what was found in a word of this length
pub found_in : (w : List ℕ) (k : ℕ) (r : Option ℕ) → length w ≡ k → Finds (λ n. (n < 16 ^ length w) × (w ≡ hex (length w) n)) r → Finds (λ n. (n < 16 ^ k) × (w ≡ hex k n)) r
found_in w k r long found = let P : ℕ → Type 0 = λ m. Finds (λ n. (n < 16 ^ m) × (w ≡ hex m n)) r in subst P long found

-- ---- rules

pub none_more : (rules : List Rule) (w : List ℕ) (r : Rule) → SpellNone rules w → (w ≡ rule_word r → ⊥) → SpellNone (rules ++ r ∷ []) w
none_more [] w r before not = (not, tt)
none_more (q ∷ rules) w r before not = (before.0, none_more rules w r before.1 not)

pub none_one_more : (rules : List Rule) (w text : List ℕ) (i : ℕ) (r : Rule) → i < length rules → SpellNone (take i rules) w → text ≡ rule_word (get_or rules i r) → (w ≡ text → ⊥) → SpellNone (take (i + 1) rules) w
none_one_more rules w text i r here before is not =
    let P : List Rule → Type 0 = λ l. SpellNone l w in
    subst P (sym (take_more rules i r here)) (none_more (take i rules) w (get_or rules i r) before (λ e. not (e ∙ sym is)))

-- what was found among all rules
pub rule_found : (w : List ℕ) (r : Option Rule) → IfSome r (λ q. w ≡ rule_word q) → IfNone r (SpellNone ALL_RULES w) → Finds (λ q. w ≡ rule_word q) r
rule_found w None some none = none_of_all w none
rule_found w (Some r) some none = some
