-- The lines of a configuration text, and the words of a line.
use Rattle.std.specs.Prelude.{ℕ, ◌-◌, Bool, true, false, ◌==◌, nat_lt, ◌&&◌, ◌||◌, if◌then◌else◌, List, [], ◌∷◌, ◌++◌, length, map, slice_index}
use Rattle.std.specs.List.{list_all}
use Rattle.fab_config.specs.Settings.{is_between}

-- a byte more at the front of the first piece
abbrev pub with_byte : ℕ → List (List ℕ) → List (List ℕ)
with_byte b [] = (b ∷ []) ∷ []
with_byte b (p ∷ ps) = (b ∷ p) ∷ ps

-- the pieces of a text between line feeds, one more than there are line feeds
abbrev pub pieces : List ℕ → List (List ℕ)
pieces [] = [] ∷ []
pieces (b ∷ l) = elim (b == 10) [ true ↦ [] ∷ pieces l | false ↦ with_byte b (pieces l) ]

-- an empty piece behind the last line feed is no line
abbrev pub without_empty_end : List (List ℕ) → List (List ℕ)
without_empty_end [] = []
without_empty_end ([] ∷ []) = []
without_empty_end (p ∷ ps) = p ∷ without_empty_end ps

-- a line without the carriage return at its end
abbrev pub without_return : List ℕ → List ℕ
without_return [] = []
without_return (b ∷ []) = if b == 13 then [] else b ∷ []
without_return (b ∷ c ∷ l) = b ∷ without_return (c ∷ l)

abbrev pub ends_in_return : List ℕ → Bool
ends_in_return line = nat_lt 0 (length line) && slice_index line (length line - 1) == 13

abbrev pub lines_of : List ℕ → List (List ℕ)
lines_of text = map without_return (without_empty_end (pieces text))

abbrev pub is_blank : ℕ → Bool
is_blank b = b == 32 || b == 9

-- the words of a line, between runs of spaces and tabs
abbrev pub words_from : List ℕ → List ℕ → List (List ℕ)
words_from word [] = if length word == 0 then [] else word ∷ []
words_from word (b ∷ l) = elim (is_blank b) [
  | true ↦ (if length word == 0 then words_from [] l else word ∷ words_from [] l)
  | false ↦ words_from (word ++ b ∷ []) l
]

abbrev pub words : List ℕ → List (List ℕ)
words line = words_from [] line

-- an empty line, or one that begins with #
abbrev pub is_skipped : List ℕ → Bool
is_skipped [] = true
is_skipped (b ∷ l) = b == 35

abbrev pub is_ascii : List ℕ → Bool
is_ascii line = list_all (λ b. is_between 32 0x7e b || b == 9) line
