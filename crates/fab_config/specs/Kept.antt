-- What the index of names and the count beside a list of named items keep.
use Rattle.std.specs.Prelude.{◌≡◌, ℕ, ◌<◌, ◌^◌, List, length, map, sum_by}

pub record Keeps {X : Type 0} (named numbers : X → List ℕ) (names : List (List ℕ)) (l : List X) (count : ℕ) : Type 0 where
  pub index : names ≡ map named l
  pub sum : count ≡ sum_by (λ x. length (numbers x)) l
  pub few : length l < 2 ^ 32
