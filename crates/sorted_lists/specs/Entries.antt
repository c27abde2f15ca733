-- The entries of a map whose values are items, and whose keys are their numbers.
use Rattle.std.specs.Prelude.{◌≡◌, ℕ, List}
use Rattle.std.specs.List.{All}
use Rattle.std.specs.Map.{values_of}
use Rattle.fab_base.specs.Keyed.{AscendFrom}

module _ {X : Type 0} (rank : X → ℕ) where
  -- Each key is the number of its item, and the items ascend by it.
  pub record AreRanked (entries : List (ℕ × X)) : Type 0 where
    pub keyed : All (λ e. e.0 ≡ rank e.1) entries
    pub ascending : AscendFrom rank 0 (values_of entries)
