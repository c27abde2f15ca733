-- How bytes are printed.
use Rattle.std.specs.Prelude.{◌≡◌, ℕ, List, [], ◌∷◌, ◌++◌}
use Rattle.fab_base.specs.Texts.{hex, hex_bytes}

-- two digits for each byte, and the word - for no bytes
abbrev pub hex_word : List ℕ → List ℕ
hex_word [] = 45 ∷ []
hex_word (b ∷ l) = hex_bytes (b ∷ l)

-- two digits for each byte, with a colon before each
abbrev pub behind_colons : List ℕ → List ℕ
behind_colons [] = []
behind_colons (b ∷ l) = (58 ∷ hex 2 b) ++ behind_colons l

-- two digits for each byte, with colons between them
abbrev pub with_colons : List ℕ → List ℕ
with_colons [] = []
with_colons (b ∷ l) = hex 2 b ++ behind_colons l

-- whatever is appended, all that stood there stays
abbrev pub Grows : List ℕ → List ℕ → Type 0
Grows old new = (more : List ℕ) × (new ≡ old ++ more)
