-- Hexadecimal digits of bytes and of numbers.
use Rattle.std.proofs.Common.{◌≡◌, ℕ, zero, suc, ◌*◌, ◌/◌, ◌%◌, ◌^◌, ◌<◌, List, [], ◌∷◌, ◌++◌, append_assoc, slice_index, refl, sym, ◌∙◌, ap, arith}
use Rattle.std.proofs.lemmas.List.Concat.{flat_map-append}
use Rattle.std.proofs.lemmas.List.{append-nil}
use Rattle.std.proofs.Math.Nat.{div-div-eq-div-mul}
use Rattle.std.specs.Int.{byte_at}
use Rattle.hex.specs.Hex.{encode_lower, encode_with, lower_digits}
use Rattle.fab_base.specs.Layout.{spelled}
use Rattle.fab_base.specs.Texts.{hex_digit, hex, hex_bytes}
use Rattle.fab_base.proofs.LayoutLemmas.{AreBytes}

-- what holds of each number below a bound, one by one
abbrev pub AllBelow : ℕ → (ℕ → Type 0) → Type 0
AllBelow zero P = Unit {0}
AllBelow (suc n) P = P 0 × AllBelow n (λ d. P (suc d))

pub below : (n : ℕ) (P : ℕ → Type 0) → AllBelow n P → (d : ℕ) → d < n → P d
below zero P all d less = absurd (omega arith)
below (suc n) P all zero less = all.0
below (suc n) P all (suc d) less = below n (λ e. P (suc e)) all.1 d (omega arith)

digit_is : (d : ℕ) → d < 16 → slice_index lower_digits d ≡ hex_digit d
digit_is = below 16 (λ d. slice_index lower_digits d ≡ hex_digit d) search

-- two digits of a byte
two_digits : (b : ℕ) → b < 256 → slice_index lower_digits (b / 16) ∷ slice_index lower_digits (b % 16) ∷ [] ≡ hex 2 b
two_digits b fits =
    let high : b / 16 % 16 ≡ b / 16 = omega arith in
    ap (λ (d : ℕ). d ∷ slice_index lower_digits (b % 16) ∷ []) (digit_is (b / 16) (omega arith) ∙ ap hex_digit (sym high))
    ∙ ap (λ (d : ℕ). hex_digit (b / 16 % 16) ∷ d ∷ []) (digit_is (b % 16) (omega arith))

pub encode_lower-hex : (l : List ℕ) → AreBytes l → encode_lower l ≡ hex_bytes l
unfolding encode_with
encode_lower-hex [] bytes = refl
encode_lower-hex (b ∷ l) bytes =
    ap (λ m. (slice_index lower_digits (b / 16) ∷ slice_index lower_digits (b % 16) ∷ []) ++ m) (encode_lower-hex l (λ i. bytes (suc i)))
    ∙ ap (λ m. m ++ hex_bytes l) (two_digits b (bytes 0))

byte_at-shift : (k n : ℕ) → byte_at (suc k) n ≡ byte_at k (n / 256)
byte_at-shift zero n = refl
byte_at-shift (suc k) n = ap (λ (m : ℕ). m % 256) (ap (λ (d : ℕ). n / d) (let e : 256 ^ suc (suc k) ≡ 256 * 256 ^ suc k = grind arith in e) ∙ sym (div-div-eq-div-mul n 256 (256 ^ suc k)))

spelled-last : (k n : ℕ) → spelled (suc k) n ≡ spelled k (n / 256) ++ n % 256 ∷ []
spelled-last zero n = refl
spelled-last (suc k) n = ap (λ (b : ℕ). b ∷ spelled (suc k) n) (byte_at-shift k n) ∙ ap (λ m. byte_at k (n / 256) ∷ m) (spelled-last k n)

-- the digits of a number are those of its bytes
pub hex-spelled : (k n : ℕ) → hex (2 * k) n ≡ hex_bytes (spelled k n)
hex-spelled zero n = refl
hex-spelled (suc k) n =
    let twice : 2 * suc k ≡ suc (suc (2 * k)) = omega arith in
    let high : n / 16 / 16 ≡ n / 256 = omega arith in
    let upper : n / 16 % 16 ≡ n % 256 / 16 % 16 = omega arith in
    let lower : n % 16 ≡ n % 256 % 16 = omega arith in
    ap (λ (m : ℕ). hex m n) twice
    ∙ ap (λ (m : ℕ). (hex (2 * k) m ++ hex_digit (n / 16 % 16) ∷ []) ++ hex_digit (n % 16) ∷ []) high
    ∙ append_assoc (hex (2 * k) (n / 256)) (hex_digit (n / 16 % 16) ∷ []) (hex_digit (n % 16) ∷ [])
    ∙ ap (λ l. hex (2 * k) (n / 256) ++ l) (ap (λ (d : ℕ). hex_digit d ∷ hex_digit (n % 16) ∷ []) upper ∙ ap (λ (d : ℕ). hex_digit (n % 256 / 16 % 16) ∷ hex_digit d ∷ []) lower)
    ∙ ap (λ l. l ++ hex 2 (n % 256)) (hex-spelled k (n / 256))
    ∙ ap (λ l. hex_bytes (spelled k (n / 256)) ++ l) (sym (append-nil (hex 2 (n % 256))))
    ∙ sym (flat_map-append (hex 2) (spelled k (n / 256)) (n % 256 ∷ []))
    ∙ ap hex_bytes (sym (spelled-last k n))
