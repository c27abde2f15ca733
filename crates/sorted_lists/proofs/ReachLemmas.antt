-- What one answer of a test says of how far it holds.
use Rattle.std.proofs.lemmas.Bool.{ltb-false, lt-ltb}
use Rattle.std.proofs.lemmas.Bool.Decides.{nat_tests}
use Rattle.std.proofs.Common.{nat_lt, ◌≡◌, ℕ, zero, suc, ◌+◌, ◌<◌, ◌≤◌, Bool, true, false, arith}
use Rattle.sorted_lists.specs.Reach.{HoldsUpTo}

above : (n place : ℕ) → (n ≤ place → ⊥) → place < n
above zero place never = absurd (never (omega arith))
above (suc n) zero never = omega arith
above (suc n) (suc place) never = let h = above n place (λ le. never (omega (arith, le))) in omega (arith, h)

at_least : (n place : ℕ) → (place < n → ⊥) → n ≤ place
at_least n place never = let h = above (suc place) n (λ le. never (omega (arith, le))) in omega (arith, h)

module _ (post : ℕ → Bool → Type 0) (count n : ℕ) (h : HoldsUpTo post count n) (place : ℕ) where
  pub ahead : place < count → post place true → place < n
  ahead lt says = above n place (λ le. h.behind place le lt says)

  pub behind : post place false → n ≤ place
  behind says = at_least n place (λ lt. h.before place lt says)

  -- one place on
  pub goes_on : (reached : ℕ) (b : Bool) → place < count → post place b → (n ≤ place → reached ≡ n) × (place ≤ n → reached ≡ place)
      → (n ≤ place + 1 → reached + mir.Val.bool_byte b ≡ n) × (place + 1 ≤ n → reached + mir.Val.bool_byte b ≡ place + 1)
  goes_on reached true lt says before =
      let far = ahead lt says in
      let there = before.1 (omega (arith, far)) in
      (λ le. omega (arith, far, le, there), λ le. omega (arith, there))
  goes_on reached false lt says before =
      let near = behind says in
      let there = before.0 near in
      (λ le. omega (arith, there), λ le. absurd (omega (arith, near, le)))

-- a test of the places below n holds up to n
pub splits : (post : ℕ → Bool → Type 0) (count n : ℕ) → n ≤ count → ((place : ℕ) (b : Bool) → post place b → b ≡ nat_lt place n) → HoldsUpTo post count n
splits post count n le tests = record {
  within = le;
  before = λ place lt says. let is = tests place false says in absurd (grind (arith, nat_tests, is));
  behind = λ place from lt says. let is = tests place true says in absurd (grind (arith, nat_tests, is));
}
