-- Written numbers, names and addresses are read again.
use Rattle.std.proofs.Common.{◌≡◌, ℕ, zero, suc, ◌+◌, ◌-◌, ◌*◌, ◌/◌, ◌%◌, ◌^◌, ◌<◌, ◌≤◌, List, [], ◌∷◌, ◌++◌, length, get_or, Bool, true, false, cond, not, eqb, ltb, leb, ◌&&◌, Option, Some, None, refl, ◌∙◌, ap, arith}
use Rattle.std.specs.List.{list_all, flat_map}
use Rattle.std.specs.Option.{option_map, option_and_then}
use Rattle.std.specs.Fmt.{decimal}
use Rattle.std.specs.Int.{byte_at}
use Rattle.std.proofs.lemmas.Fmt.{decimal_by_steps, decimal_digit, first_decimal}
use Rattle.std.proofs.lemmas.List.{length_push}
use Rattle.std.proofs.lemmas.List.Folds.{list_all-append}
use Rattle.std.proofs.lemmas.Bool.{leb-true, le-leb, ltb-true, lt-ltb, eqb-true, and_parts, and_from}
use Rattle.fab_base.specs.Layout.{spelled, big_endian}
use Rattle.fab_base.specs.Texts.{hex_digit, hex}
use Rattle.fab_base.proofs.LayoutLemmas.{length-spelled, big_endian-spelled}
use Rattle.fab_base.proofs.TextLemmas.{below}
use Rattle.fab_config.specs.Settings.{is_between}
use Rattle.fab_config.specs.Values.{is_digit, digits_value, number, number_between, hex_value, octet, with_octet, octets, octets_of, name}
use Rattle.fab_config.specs.Written.{octets_text, name_text}
use Rattle.fab_config.proofs.HexLemmas.{behind, octets_step, some_of}
use Rattle.fab_config.proofs.BackLemmas.{is_sign, is_word}

between_is : (least most n : ℕ) → least ≤ n → n ≤ most → is_between least most n ≡ true
between_is least most n low high = and_from (leb least n) (leb n most) (le-leb least n low) (le-leb n most high)

-- ---- decimal numbers

value_push : (n c : ℕ) (ds : List ℕ) → digits_value n (ds ++ c ∷ []) ≡ 10 * digits_value n ds + (c - 48)
value_push n c [] = refl
value_push n c (d ∷ ds) = value_push (10 * n + (d - 48)) c ds

pub record IsDecimal (n : ℕ) (ds : List ℕ) : Type 0 where
  pub digits : list_all is_digit ds ≡ true
  pub value : digits_value 0 ds ≡ n
  pub some : 1 ≤ length ds

one_digit : (n : ℕ) → n < 10 → IsDecimal n ((48 + n) ∷ [])
one_digit n lt = record {
  digits = and_from (is_digit (48 + n)) true (between_is 48 57 (48 + n) (omega arith) (omega arith)) refl;
  value = omega arith;
  some = omega arith;
}

more_digits : (n : ℕ) (ds : List ℕ) → 10 ≤ n → IsDecimal (n / 10) ds → IsDecimal n (ds ++ (48 + n % 10) ∷ [])
more_digits n ds le h = record {
  digits = list_all-append is_digit ds ((48 + n % 10) ∷ []) ∙ and_from (list_all is_digit ds) (is_digit (48 + n % 10) && true) h.digits (and_from (is_digit (48 + n % 10)) true (between_is 48 57 (48 + n % 10) (omega arith) (omega arith)) refl);
  value = value_push 0 (48 + n % 10) ds ∙ (let v = h.value in let e : 10 * digits_value 0 ds + (48 + n % 10 - 48) ≡ n = omega (arith, v) in e);
  some = let l = length_push ds (48 + n % 10) in omega (arith, l);
}

pub decimal_is : (n : ℕ) → n < 2 ^ 64 → IsDecimal n (decimal n)
decimal_is n fits = decimal_by_steps IsDecimal one_digit more_digits n fits

number_of : (ds : List ℕ) → 1 ≤ length ds → list_all is_digit ds ≡ true → (get_or ds 0 0 ≡ 48 → ⊥) → number ds ≡ Some (digits_value 0 ds)
number_of [] some all ne = absurd (omega arith)
number_of (b ∷ []) some all ne = ap (λ t. cond t (Some (b - 48)) None) (and_parts _ _ all).0 ∙ ap (λ (m : ℕ). Some m) (let e : b - 48 ≡ 10 * 0 + (b - 48) = omega arith in e)
number_of (b ∷ c ∷ ds) some all ne = ap (λ t. cond t (Some (digits_value 0 (b ∷ c ∷ ds))) None) (and_from (not (eqb b 48)) (list_all is_digit (b ∷ c ∷ ds)) (by (eqb b 48) refl) all)
  where
    by : (t : Bool) → eqb b 48 ≡ t → not t ≡ true
    by true e = absurd (ne (eqb-true b 48 e))
    by false e = refl

pub number_back : (n : ℕ) → n < 2 ^ 64 → number (decimal n) ≡ Some n
number_back n fits = by (ltb n 10) refl
  where
    by : (t : Bool) → ltb n 10 ≡ t → number (decimal n) ≡ Some n
    by true e =
        let lt : n < 10 = ltb-true n 10 e in
        ap number (decimal_digit n lt) ∙ ap (λ t. cond t (Some (48 + n - 48)) None) (between_is 48 57 (48 + n) (omega arith) (omega arith)) ∙ ap (λ (m : ℕ). Some m) (let f : 48 + n - 48 ≡ n = omega arith in f)
    by false e =
        let some : 0 < n = (let le : 10 ≤ n = grind arith in omega (arith, le)) in
        let d = decimal_is n fits in
        let first = first_decimal n some fits in
        number_of (decimal n) d.some d.digits (λ f. omega (arith, first, f)) ∙ ap (λ (m : ℕ). Some m) d.value

pub between_back : (least most n : ℕ) → n < 2 ^ 64 → is_between least most n ≡ true → number_between least most (decimal n) ≡ Some n
between_back least most n fits h = ap (λ (o : Option ℕ). option_and_then (λ (m : ℕ). cond (is_between least most m) (Some m) None) o) (number_back n fits) ∙ ap (λ t. cond t (Some n) None) h

digits_word : (ds : List ℕ) → list_all is_digit ds ≡ true → is_word ds ≡ true
digits_word [] h = refl
digits_word (b ∷ ds) h =
    let both = and_parts _ _ h in
    let parts = and_parts _ _ both.0 in
    let low : 48 ≤ b = leb-true 48 b parts.0 in
    let high : b ≤ 57 = leb-true b 57 parts.1 in
    and_from (is_sign b) (is_word ds) (between_is 33 126 b (omega (arith, low)) (omega (arith, high))) (digits_word ds both.1)

pub decimal_word : (n : ℕ) → n < 2 ^ 64 → (is_word (decimal n) && leb 1 (length (decimal n))) ≡ true
decimal_word n fits = let d = decimal_is n fits in and_from (is_word (decimal n)) (leb 1 (length (decimal n))) (digits_word (decimal n) d.digits) (le-leb 1 (length (decimal n)) d.some)

-- ---- pairs of digits

digit_back : (d : ℕ) → d < 16 → hex_value (hex_digit d) ≡ Some d
digit_back = below 16 (λ d. hex_value (hex_digit d) ≡ Some d) search

octet_back : (b : ℕ) → b < 256 → octet (hex_digit (b / 16 % 16)) (hex_digit (b % 16)) ≡ Some b
octet_back b lt =
    ap (λ (o : Option ℕ). option_and_then (λ (x : ℕ). option_map (λ (y : ℕ). x * 16 + y) (hex_value (hex_digit (b % 16)))) o) (digit_back (b / 16 % 16) (omega arith))
    ∙ ap (λ (o : Option ℕ). option_map (λ (y : ℕ). b / 16 % 16 * 16 + y) o) (digit_back (b % 16) (omega arith))
    ∙ ap (λ (m : ℕ). Some m) (let e : b / 16 % 16 * 16 + b % 16 ≡ b = omega arith in e)

abbrev pub are_bytes : List ℕ → Bool
are_bytes l = list_all (λ b. ltb b 256) l

behind_back : (l : List ℕ) → are_bytes l ≡ true → behind (flat_map (λ c. 58 ∷ hex 2 c) l) ≡ Some l
behind_back [] h = refl
behind_back (b ∷ l) h =
    let both = and_parts _ _ h in
    octets_step (hex_digit (b / 16 % 16)) (hex_digit (b % 16)) (flat_map (λ c. 58 ∷ hex 2 c) l)
    ∙ ap (λ (o : Option ℕ). with_octet o (behind (flat_map (λ c. 58 ∷ hex 2 c) l))) (octet_back b (ltb-true b 256 both.0))
    ∙ ap (λ (o : Option (List ℕ)). with_octet (Some b) o) (behind_back l both.1)

pub octets_back : (l : List ℕ) → 1 ≤ length l → are_bytes l ≡ true → octets (octets_text l) ≡ Some l
octets_back [] some h = absurd (omega arith)
octets_back (b ∷ l) some h =
    let both = and_parts _ _ h in
    octets_step (hex_digit (b / 16 % 16)) (hex_digit (b % 16)) (flat_map (λ c. 58 ∷ hex 2 c) l)
    ∙ ap (λ (o : Option ℕ). with_octet o (behind (flat_map (λ c. 58 ∷ hex 2 c) l))) (octet_back b (ltb-true b 256 both.0))
    ∙ ap (λ (o : Option (List ℕ)). with_octet (Some b) o) (behind_back l both.1)

pub spelled_bytes : (k n : ℕ) → are_bytes (spelled k n) ≡ true
spelled_bytes zero n = refl
spelled_bytes (suc k) n = and_from (ltb (byte_at k n) 256) (are_bytes (spelled k n)) (lt-ltb (byte_at k n) 256 (below k n)) (spelled_bytes k n)
  where
    below : (k n : ℕ) → byte_at k n < 256
    below zero n = let e : n % 256 < 256 = omega arith in e
    below (suc k) n = let e : n / 256 ^ suc k % 256 < 256 = omega arith in e

pub octets_of_back : (count : ℕ) (l : List ℕ) → 1 ≤ count → length l ≡ count → are_bytes l ≡ true → octets_of count (octets_text l) ≡ Some l
octets_of_back count l some is h = some_of (octets_text l) l count (octets_back l (omega arith) h) is

pub name_back : (n : ℕ) → n < 2 ^ 64 → name (name_text n) ≡ Some n
name_back n fits =
    ap (λ (o : Option (List ℕ)). option_map big_endian o) (octets_of_back 8 (spelled 8 n) (omega arith) (length-spelled 8 n) (spelled_bytes 8 n))
    ∙ ap (λ (m : ℕ). Some m) (big_endian-spelled 8 n fits)

digit_sign : (d : ℕ) → d < 16 → is_sign (hex_digit d) ≡ true
digit_sign d lt = by (ltb d 10)
  where
    by : (t : Bool) → is_sign (cond t (48 + d) (87 + d)) ≡ true
    by true = between_is 33 126 (48 + d) (omega arith) (omega arith)
    by false = between_is 33 126 (87 + d) (omega arith) (omega arith)

colons_word : (l : List ℕ) → are_bytes l ≡ true → is_word (flat_map (λ c. 58 ∷ hex 2 c) l) ≡ true
colons_word [] h = refl
colons_word (b ∷ l) h =
    let both = and_parts _ _ h in
    let rest = flat_map (λ c. 58 ∷ hex 2 c) l in
    and_from (is_sign (hex_digit (b / 16 % 16))) (is_sign (hex_digit (b % 16)) && is_word rest) (digit_sign (b / 16 % 16) (omega arith))
    (and_from (is_sign (hex_digit (b % 16))) (is_word rest) (digit_sign (b % 16) (omega arith)) (colons_word l both.1))

pub octets_word : (l : List ℕ) → 1 ≤ length l → are_bytes l ≡ true → (is_word (octets_text l) && leb 1 (length (octets_text l))) ≡ true
octets_word [] some h = absurd (omega arith)
octets_word (b ∷ l) some h =
    let both = and_parts _ _ h in
    let rest = flat_map (λ c. 58 ∷ hex 2 c) l in
    and_from (is_sign (hex_digit (b / 16 % 16)) && (is_sign (hex_digit (b % 16)) && is_word rest)) (leb 1 (suc (suc (length rest))))
    (and_from (is_sign (hex_digit (b / 16 % 16))) (is_sign (hex_digit (b % 16)) && is_word rest) (digit_sign (b / 16 % 16) (omega arith))
    (and_from (is_sign (hex_digit (b % 16))) (is_word rest) (digit_sign (b % 16) (omega arith)) (colons_word l both.1)))
    (le-leb 1 (suc (suc (length rest))) (omega arith))
