-- Several names of files.
use Rattle.std.specs.Prelude.{◌≡◌, ℕ, ◌⊎◌, List, [], ◌∷◌}

-- one of these names
abbrev pub Among : List (List ℕ) → List ℕ → Type 0
Among [] m = ⊥
Among (n ∷ names) m = (m ≡ n) ⊎ Among names m
