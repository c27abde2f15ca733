-- The number that a word spells.
use Rattle.std.proofs.Common.{◌≡◌, ℕ, ◌^◌, ◌<◌, Bool, true, false, ◌&&◌, if◌then◌else◌, List, Some, None, refl, sym, ◌∙◌, ap, subst, decimal}
use Rattle.std.specs.Prelude.{nat_lt}
use Rattle.std.specs.Str.{bytes_eq}
use Rattle.std.specs.Str.Parse.{digits_value, IsNumeral, without_leading_plus}
use Rattle.std.proofs.lemmas.Bool.{lt-ltb, ltb-true}
use Rattle.std.proofs.lemmas.Fmt.{decimal_is_IsNumeral}
use Rattle.std.proofs.lemmas.Slice.Eq.{bytes_eq-Decides}
use Rattle.fab_policy.specs.Private.LineWords.{IsShortest}
use Rattle.fab_policy.proofs.ReadLemmas.{not_shortest, parsed, not_parsed}
use Rattle.fabric_tool.specs.Command.{number_of}
use Rattle.fabric_tool.proofs.NameLemmas.{and_true}

-- the decimal text of a number
spells : (w : List ℕ) (x : ℕ) → (x < 2 ^ 64) × (w ≡ decimal x) → number_of w ≡ Some x
spells w x is =
    let value : digits_value 10 w ≡ x = ap (digits_value 10) is.1 ∙ (decimal_is_IsNumeral x is.0).1 in
    let same : bytes_eq w (decimal x) ≡ true = (bytes_eq-Decides w (decimal x)).1 is.1 in
    let small : nat_lt x (2 ^ 64) ≡ true = lt-ltb x (2 ^ 64) is.0 in
    ap (λ (n : ℕ). if bytes_eq w (decimal n) && nat_lt n (2 ^ 64) then Some n else None) value
    ∙ ap (λ (b : Bool). if b && nat_lt x (2 ^ 64) then Some x else None) same
    ∙ ap (λ (b : Bool). if b then Some x else None) small

-- a word that is no such text
spells_none : (w : List ℕ) → ((n : ℕ) → (n < 2 ^ 64) × (w ≡ decimal n) → ⊥) → number_of w ≡ None
spells_none w none =
    let n = digits_value 10 w in
    go n (bytes_eq w (decimal n) && nat_lt n (2 ^ 64)) refl
  where
    go : (n : ℕ) (b : Bool) → (bytes_eq w (decimal n) && nat_lt n (2 ^ 64)) ≡ b → (if b then Some n else None) ≡ None
    go n true is = let both = and_true (bytes_eq w (decimal n)) (nat_lt n (2 ^ 64)) is in absurd (none n (ltb-true n (2 ^ 64) both.1, (bytes_eq-Decides w (decimal n)).0 both.0))
    go n false is = refl

pub not_short : (w l : List ℕ) → l ≡ w → (IsShortest l → ⊥) → None ≡ number_of w
not_short w l e long = sym (spells_none w (not_shortest w (subst (λ x. IsShortest x → ⊥) e long)))

pub short_parsed : (w l : List ℕ) (x : ℕ) → l ≡ w → IsShortest l → (IsNumeral 10 (without_leading_plus w) × (digits_value 10 (without_leading_plus w) < 2 ^ 64)) × (x ≡ digits_value 10 (without_leading_plus w)) → Some x ≡ number_of w
short_parsed w l x e short h = sym (spells w x (parsed w x (subst (λ y. IsShortest y) e short) h))

pub short_unparsed : (w l : List ℕ) → l ≡ w → IsShortest l → (IsNumeral 10 (without_leading_plus w) × (digits_value 10 (without_leading_plus w) < 2 ^ 64) → ⊥) → None ≡ number_of w
short_unparsed w l e short other = sym (spells_none w (not_parsed w (subst (λ y. IsShortest y) e short) other))
