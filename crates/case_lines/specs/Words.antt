-- The lines of a text, and a word of a line by its index.
use Rattle.std.specs.Prelude.{ℕ, zero, suc, Bool, true, false, ◌==◌, List, [], ◌∷◌}

-- how many bytes stand before the first line feed, or in a text without
abbrev pub line_length : List ℕ → ℕ
line_length [] = 0
line_length (b ∷ l) = elim (b == 10) [ true ↦ 0 | false ↦ suc (line_length l) ]

-- the word at an index, and an empty one behind the last
abbrev pub word_at : List (List ℕ) → ℕ → List ℕ
word_at [] n = []
word_at (w ∷ ws) zero = w
word_at (w ∷ ws) (suc n) = word_at ws n

-- an empty line, or one that begins with #
abbrev pub is_remark : List ℕ → Bool
is_remark [] = true
is_remark (b ∷ l) = b == 35
