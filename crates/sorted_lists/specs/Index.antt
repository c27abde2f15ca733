-- What is kept of the records of a list in the order of another number.
use Rattle.std.specs.Prelude.{◌≡◌, ℕ, List, length, Some}
use Rattle.fab_base.specs.Keyed.{item_at, AscendFrom}

module _ {X D : Type 0} (key : X → ℕ) (rank : D → ℕ) (entry : X → D) where
  -- The entries ascend by rank. Each record has its entry there, and each entry is that of a record; no two records have
  -- entries of one rank.
  pub record IsIndex (xs : List X) (ds : List D) : Type 0 where
    pub ascending : AscendFrom rank 0 ds
    pub told : (n : ℕ) (x : X) → item_at key n xs ≡ Some x → item_at rank (rank (entry x)) ds ≡ Some (entry x)
    pub made : (k : ℕ) (d : D) → item_at rank k ds ≡ Some d → (n : ℕ) × (x : X) × (item_at key n xs ≡ Some x) × (entry x ≡ d)
    pub apart : (n m : ℕ) (x y : X) → item_at key n xs ≡ Some x → item_at key m xs ≡ Some y → rank (entry x) ≡ rank (entry y) → n ≡ m
    pub count : length ds ≡ length xs
