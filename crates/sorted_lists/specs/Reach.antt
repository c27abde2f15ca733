-- How far a test holds.
use Rattle.std.specs.Prelude.{ℕ, ◌<◌, ◌≤◌, Bool, true, false, List, nat_le}
use Rattle.std.specs.List.{position_or_len}

-- The test answers yes at the first n of so many places, and no at the others.
pub record HoldsUpTo (answers : ℕ → Bool → Type 0) (count n : ℕ) : Type 0 where
  pub within : n ≤ count
  pub before : (place : ℕ) → place < n → answers place false → ⊥
  pub behind : (place : ℕ) → n ≤ place → place < count → answers place true → ⊥

-- the place of the first item that isn't below the bound
abbrev pub place_of : {X : Type 0} → (X → ℕ) → ℕ → List X → ℕ
place_of number from xs = position_or_len (λ x. nat_le from (number x)) xs
