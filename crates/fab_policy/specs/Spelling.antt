-- What one line of a journal says, and its one spelling in each format.
use Rattle.std.specs.Prelude.{◌≡◌, ℕ, ◌<◌, ◌≤◌, ◌^◌, List, [], ◌∷◌, ◌++◌, Option, Some, None, unwrap_or, codes, decimal}
use Rattle.fab_policy.specs.Ranged.{AscendFrom, IsRangedVerdict, IsRangedEvent}
use Rattle.fab_policy.specs.Text.{LINE_FEED, then_word, address_words, frame_words, line, line1}
use Rattle.fab_policy.specs.declared.event.Event.{Event}
use Rattle.fab_policy.specs.declared.event.Event.TheVariants as event
use Rattle.fab_policy.specs.declared.line.Format.{Format}
use Rattle.fab_policy.specs.declared.line.Format.TheVariants.{One, Two}
use Rattle.fab_policy.specs.declared.line.Line.{Line}
use Rattle.fab_policy.specs.declared.line.Line.TheVariants.{Tick, Frame}

-- ---- entries

-- the clock at a tick is its moment
abbrev pub IsClockOf : ℕ → Event → Type 0
IsClockOf t (event.Tick m ended) = t ≡ m
IsClockOf t (event.Frame port index caught verdict) = Unit {0}

-- the addresses of a tick ascend strictly
abbrev pub EndsAscend : Event → Type 0
EndsAscend (event.Tick m ended) = AscendFrom 0 ended
EndsAscend (event.Frame port index caught verdict) = Unit {0}

-- what a line says of an entry at a clock
abbrev pub line_of : Format → ℕ → Event → Line
line_of f t (event.Tick m ended) = Tick m ended
line_of One t (event.Frame port index caught verdict) = Frame port index verdict None
line_of Two t (event.Frame port index caught verdict) = Frame port index verdict (Some t)

-- ---- spelling

-- The text of a line. In format 2 it begins with the clock.
abbrev pub line_text : Format → Line → List ℕ
line_text One (Tick m ended) = codes "tick" ++ then_word (decimal m) ++ address_words ended ++ LINE_FEED ∷ []
line_text One (Frame port index verdict clock) = frame_words port index verdict ++ LINE_FEED ∷ []
line_text Two (Tick m ended) = decimal m ++ then_word (codes "tick") ++ address_words ended ++ LINE_FEED ∷ []
line_text Two (Frame port index verdict clock) = decimal (unwrap_or clock 0) ++ then_word (frame_words port index verdict) ++ LINE_FEED ∷ []

-- a clock stands in format 2 alone
abbrev pub HasClockOf : Format → Option ℕ → Type 0
HasClockOf One None = Unit {0}
HasClockOf One (Some t) = ⊥
HasClockOf Two None = ⊥
HasClockOf Two (Some t) = t < 2 ^ 64

-- the numbers of a line are in the ranges of their types
abbrev pub IsRangedLine : Format → Line → Type 0
IsRangedLine f (Tick m ended) = (m < 2 ^ 64) × AscendFrom 0 ended
IsRangedLine f (Frame port index verdict clock) = (1 ≤ port) × (port ≤ 64) × (index < 2 ^ 64) × IsRangedVerdict verdict × HasClockOf f clock

-- A text is the spelling of a line in a format.
pub record Spells (f : Format) (text : List ℕ) (l : Line) : Type 0 where
  pub ranged : IsRangedLine f l
  pub spelled : text ≡ line_text f l

-- Each text is the spelling of one line at most.
abbrev pub LinesAreUnique : Type 0
LinesAreUnique = (f : Format) (text : List ℕ) (l m : Line) → Spells f text l → Spells f text m → l ≡ m

-- A text is the spelling of this line and of no other.
pub record SpellsOnly (f : Format) (text : List ℕ) (l : Line) : Type 0 where
  pub spells : Spells f text l
  pub only : (m : Line) → Spells f text m → m ≡ l

-- The line that is written for an entry spells what a line says of the entry, and nothing else.
abbrev pub LinesSpellEntries : Type 0
LinesSpellEntries = (t : ℕ) (e : Event) → t < 2 ^ 64 → IsRangedEvent e → SpellsOnly One (line1 e) (line_of One t e) × (IsClockOf t e → SpellsOnly Two (line t e) (line_of Two t e))
