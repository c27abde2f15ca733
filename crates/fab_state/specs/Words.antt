-- The words of a line.
use Rattle.std.specs.Prelude.{◌≡◌, ℕ, Bool, false, ◌==◌, not, List, [], ◌∷◌}
use Rattle.std.specs.List.{AllByRecursion}
use Rattle.fab_policy.specs.Private.LineWords.{IsWord}
use Rattle.fab_policy.specs.Text.{LINE_FEED}

-- a line has a first word, and words alone
abbrev pub IsLine : List (List ℕ) → Type 0
IsLine [] = ⊥
IsLine (w ∷ ws) = AllByRecursion IsWord (w ∷ ws)

-- a byte that doesn't end a line
abbrev pub is_no_feed : ℕ → Bool
is_no_feed b = not (b == LINE_FEED)

-- nothing is left, or a line feed
abbrev pub EndsLine : List ℕ → Type 0
EndsLine [] = Unit {0}
EndsLine (b ∷ l) = is_no_feed b ≡ false

-- the first of words, and no bytes where there is none
abbrev pub first_of : List (List ℕ) → List ℕ
first_of [] = []
first_of (w ∷ ws) = w

-- each is a line
abbrev pub AreLines : List (List (List ℕ)) → Type 0
AreLines [] = Unit {0}
AreLines (row ∷ rows) = IsLine row × AreLines rows
