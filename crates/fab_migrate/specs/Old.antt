-- The text of a journal in format 1: its lines, its first fault, and the same lines in format 2.
use Rattle.std.specs.Prelude.{◌≡◌, ℕ, ◌+◌, ◌<◌, List, [], ◌∷◌, ◌++◌, length, Option, Some, None}
use Rattle.fab_policy.specs.Spelling.{IsRangedLine, line_text}
use Rattle.fab_policy.specs.Text.{head_line}
use Rattle.fab_policy.specs.declared.line.Format.{Format}
use Rattle.fab_policy.specs.declared.line.Format.TheVariants.{One, Two}
use Rattle.fab_policy.specs.declared.line.Line.{Line}
use Rattle.fab_policy.specs.declared.line.Line.TheVariants.{Tick, Frame}
use Rattle.fab_migrate.specs.declared.old.OldWhy.{OldWhy}
use Rattle.fab_migrate.specs.declared.old.OldWhy.TheVariants as why

-- ---- lines

-- the texts of lines, one after another
abbrev pub lines_text : Format → List Line → List ℕ
lines_text f [] = []
lines_text f (l ∷ ls) = line_text f l ++ lines_text f ls

-- the clock behind a line: the moment of the last tick, and none before the first
abbrev pub clock_after : Option ℕ → Line → Option ℕ
clock_after clock (Tick m ended) = Some m
clock_after clock (Frame port index verdict at) = clock

abbrev pub clock_behind : Option ℕ → List Line → Option ℕ
clock_behind clock [] = clock
clock_behind clock (l ∷ ls) = clock_behind (clock_after clock l) ls

-- A line may come at a clock: a tick whose moment is above it, and, where there is a clock, any frame.
abbrev pub MayCome : Option ℕ → Line → Type 0
MayCome None (Tick m ended) = Unit {0}
MayCome None (Frame port index verdict at) = ⊥
MayCome (Some t) (Tick m ended) = t < m
MayCome (Some t) (Frame port index verdict at) = Unit {0}

-- each of these lines is one of format 1, and may come at the clock behind those before it
abbrev pub AllCome : Option ℕ → List Line → Type 0
AllCome clock [] = Unit {0}
AllCome clock (l ∷ ls) = IsRangedLine One l × MayCome clock l × AllCome (clock_after clock l) ls

-- A text is lines of format 1, of which the first, if any, is a tick, and whose ticks rise.
pub record IsOld (text : List ℕ) (lines : List Line) : Type 0 where
  pub spelled : text ≡ lines_text One lines
  pub come : AllCome None lines

-- ---- format 2

-- a line of format 1 as one of format 2: that of a frame gets the clock
abbrev pub clocked : Option ℕ → Line → Line
clocked clock (Tick m ended) = Tick m ended
clocked clock (Frame port index verdict at) = Frame port index verdict clock

abbrev pub all_clocked : Option ℕ → List Line → List Line
all_clocked clock [] = []
all_clocked clock (l ∷ ls) = clocked clock l ∷ all_clocked (clock_after clock l) ls

-- a journal of format 1 in format 2: the head, and each line
abbrev pub new_text : List Line → List ℕ
new_text lines = head_line ++ lines_text Two (all_clocked None lines)

-- ---- the first fault

-- Why what is left of a text has no line that may come at a clock: it begins with no line of format 1; or with one that may
-- not come.
abbrev pub IsFaulty : Option ℕ → List ℕ → OldWhy → Type 0
IsFaulty clock rest why.Text = (rest ≡ [] → ⊥) × ((l : Line) (more : List ℕ) → IsRangedLine One l → rest ≡ line_text One l ++ more → ⊥)
IsFaulty clock rest why.Tick = (l : Line) × (more : List ℕ) × IsRangedLine One l × (rest ≡ line_text One l ++ more) × (MayCome clock l → ⊥)

-- A text has its first fault at the line of this number, counted from 1: the lines before it come, and it doesn't.
pub record HasFirstFault (text : List ℕ) (number : ℕ) (fault : OldWhy) : Type 0 where
  pub before : List Line
  pub rest : List ℕ
  pub spelled : text ≡ lines_text One before ++ rest
  pub come : AllCome None before
  pub numbered : number ≡ length before + 1
  pub faulty : IsFaulty (clock_behind None before) rest fault
