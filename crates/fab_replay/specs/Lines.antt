-- The lines of a journal's text, in its two formats, and the place behind those of a journal.
use Rattle.std.specs.Prelude.{◌≡◌, ◌≢◌, ℕ, ◌+◌, ◌<◌, ◌≤◌, ◌==◌, if◌then◌else◌, List, [], ◌∷◌, ◌++◌, length, take, drop, Result, Ok, Err}
use Rattle.std.specs.Str.{bytes_eq}
use Rattle.fab_policy.specs.Journal.{Journal}
use Rattle.fab_policy.specs.Spelling.{Spells}
use Rattle.fab_policy.specs.Text.{LINE_FEED, head_line, text, text1}
use Rattle.fab_policy.specs.declared.line.Format.{Format}
use Rattle.fab_policy.specs.declared.line.Format.TheVariants.{One, Two}
use Rattle.fab_policy.specs.declared.line.Line.{Line}
use Rattle.fab_policy.specs.declared.line.Line.TheVariants.{Tick, Frame}
use Rattle.fab_policy.specs.declared.reading.LineError.{LineError}
use Rattle.fab_policy.specs.declared.reading.LineError.TheVariants as line_error
use Rattle.fab_replay.specs.declared.fault.CheckFault.{CheckFault}
use Rattle.fab_replay.specs.declared.fault.CheckFault.TheVariants as fault
use Rattle.fab_replay.specs.declared.fault.LineWhy.TheVariants as why
use Rattle.fab_replay.specs.declared.lines.Place.{Place}

-- ---- a text in lines

-- the first line of a text with its line feed; all of the text where it has none
abbrev pub first_line : List ℕ → List ℕ
first_line [] = []
first_line (b ∷ bytes) = if b == LINE_FEED then b ∷ [] else b ∷ first_line bytes

-- what is behind it
abbrev pub behind_line : List ℕ → List ℕ
behind_line [] = []
behind_line (b ∷ bytes) = if b == LINE_FEED then bytes else behind_line bytes

-- ---- formats

-- A text that begins with the head line is in the second format, and each other one in the first.
unfoldable pub format_of : List ℕ → Format
format_of bytes = if bytes_eq head_line (take 10 bytes) then Two else One

-- the text of a journal in a format
abbrev pub text_in : Format → Journal → List ℕ
text_in One J = text1 J
text_in Two J = text J

-- the number of the line behind so many entries: lines are counted from 1, and in the second format the head is one
abbrev pub number_behind : Format → ℕ → ℕ
number_behind One entries = entries + 1
number_behind Two entries = entries + 2

-- ---- places

-- The lines before a place are those of a journal.
pub record IsBehind (bytes : List ℕ) (p : Place) (J : Journal) : Type 0 where
  pub format : p.format ≡ format_of bytes
  pub entries : p.entries ≡ length J
  pub lines : bytes ≡ text_in p.format J ++ drop p.at bytes

-- A place is inside a text, and each entry before it takes at least two bytes.
pub record IsInside (bytes : List ℕ) (p : Place) : Type 0 where
  pub within : p.at ≤ length bytes
  pub long : p.entries + p.entries ≤ p.at

-- A line stands at one place, and the other place is behind it.
pub record IsLineAt (bytes : List ℕ) (p q : Place) (l : Line) : Type 0 where
  pub spells : Spells p.format (first_line (drop p.at bytes)) l
  pub format : q.format ≡ p.format
  pub entries : q.entries ≡ p.entries + 1
  pub behind : drop q.at bytes ≡ behind_line (drop p.at bytes)
  pub inside : IsInside bytes q
  pub onward : p.at < q.at

-- Why no line is read at a place: the text ends there, or what stands there is no line's one spelling; or memory was refused, of which
-- only a line asks.
abbrev pub IsUnread : List ℕ → Place → CheckFault → Type 0
IsUnread bytes p (fault.Line n why.Rest) = (n ≡ number_behind p.format p.entries) × (drop p.at bytes ≡ [])
IsUnread bytes p (fault.Line n why.Text) = (n ≡ number_behind p.format p.entries) × (drop p.at bytes ≢ []) × ((l : Line) → Spells p.format (first_line (drop p.at bytes)) l → ⊥)
IsUnread bytes p fault.Memory = drop p.at bytes ≢ []
IsUnread bytes p _ = ⊥

-- what a line at a place ends a check with that couldn't be read
abbrev pub unread_by : LineError → Place → CheckFault
unread_by line_error.Fault p = fault.Line (number_behind p.format p.entries) why.Text
unread_by line_error.Memory p = fault.Memory

-- what a line at a place ends a check with, where none should stand
abbrev pub behind_by : Line → Place → CheckFault
behind_by (Tick m ended) p = fault.Line (number_behind p.format p.entries) why.Tick
behind_by (Frame port index verdict told) p = fault.Line (number_behind p.format p.entries) why.Frame

-- what is read behind the last frame ends a check with this
abbrev pub end_fault : Result Line CheckFault → Place → CheckFault
end_fault (Ok line) p = behind_by line p
end_fault (Err e) p = e

-- a line at a place isn't that of a tick, and this is its fault
pub record IsOtherTick (p : Place) (l : Line) (moment : ℕ) (ended : List ℕ) (e : CheckFault) : Type 0 where
  pub is : e ≡ fault.Line (number_behind p.format p.entries) why.Tick
  pub other : l ≡ Tick moment ended → ⊥

-- the fault of a line, or want of memory
abbrev pub IsOfLine : CheckFault → Type 0
IsOfLine (fault.Line line why) = Unit {0}
IsOfLine fault.Memory = Unit {0}
IsOfLine _ = ⊥
