-- A file that is read whole, and words of private contracts alone.
use Rattle.std.specs.Prelude.{◌≡◌, ℕ, true, List, [], ◌++◌, length, Option, Some, Result, Ok, Err, Vec}
use Rattle.std.specs.declared.alloc.Global.{Global}
use Rattle.fab_base.specs.Seen.{Seen}
use Rattle.fab_base.specs.Whole as base
use Rattle.fab_base.specs.declared.whole.WholeError.{WholeError}
use Rattle.fab_base.specs.declared.whole.WholeError.TheVariants as wholes
use Rattle.fab_policy.specs.Spelling.{Spells, line_text}
use Rattle.fab_policy.specs.declared.event.Event.{Event}
use Rattle.fab_policy.specs.declared.event.Event.TheVariants as event
use Rattle.fab_policy.specs.declared.line.Format.TheVariants.{One, Two}
use Rattle.fab_policy.specs.declared.line.Line.{Line}
use Rattle.fab_policy.specs.declared.reading.LineError.{LineError}
use Rattle.fab_policy.specs.declared.reading.LineError.TheVariants as unread
use Rattle.fab_policy.specs.declared.line.Line.TheVariants.{Tick, Frame}
use Rattle.fab_migrate.specs.Old.{IsOld, HasFirstFault, MayCome, clock_after, clocked, new_text}
use Rattle.fab_migrate.specs.declared.old.OldWhy.{OldWhy}
use Rattle.fab_migrate.specs.declared.old.OldWhy.TheVariants as why
use Rattle.fab_migrate.specs.declared.old.OldError.{OldError}
use Rattle.fab_migrate.specs.declared.old.OldError.TheVariants as errors
use Rattle.fab_migrate.specs.declared.old.Refused.{Refused}
use Rattle.fab_migrate.specs.declared.old.Refused.TheVariants as refused
use Rattle.fab_migrate.specs.declared.old.Rewritten.{Rewritten}

-- the entry of a line, without its frame, of which no line tells
abbrev pub entry_of : Line → Event
entry_of (Tick m ended) = event.Tick m ended
entry_of (Frame port index verdict at) = event.Frame port index (record { bytes = []; whole = true }) verdict

-- the clock behind a line that may come, or that it may not
abbrev pub Admits : Option ℕ → Line → Result ℕ OldWhy → Type 0
Admits clock l (Ok t) = MayCome clock l × (clock_after clock l ≡ Some t)
Admits clock l (Err why.Tick) = MayCome clock l → ⊥
Admits clock l (Err why.Text) = ⊥

-- A text that spells a line which may come was appended in format 2, and this is the clock behind it; or nothing was.
abbrev pub AddsLine : Option ℕ → List ℕ → List ℕ → List ℕ → Result ℕ Refused → Type 0
AddsLine clock line old new (Ok t) = (l : Line) × Spells One line l × MayCome clock l × (clock_after clock l ≡ Some t) × (new ≡ old ++ line_text Two (clocked clock l))
AddsLine clock line old new (Err (refused.Fault why.Text)) = (l : Line) → Spells One line l → ⊥
AddsLine clock line old new (Err (refused.Fault why.Tick)) = (l : Line) × Spells One line l × (MayCome clock l → ⊥)
AddsLine clock line old new (Err refused.Memory) = Unit {0}

-- why a text that can't be read as a line isn't added
abbrev pub refusal_by : LineError → Refused
refusal_by unread.Fault = refused.Fault why.Text
refusal_by unread.Memory = refused.Memory

-- what the refusal of a line ends the reading with
abbrev pub old_fault_by : Refused → ℕ → OldError
old_fault_by (refused.Fault why) line = errors.Fault line why
old_fault_by refused.Memory line = errors.Memory

-- A text is a journal of format 1, and this is it in format 2 with the number of its entries; or its first fault.
abbrev pub Rewrites : List ℕ → Result Rewritten OldError → Type 0
Rewrites text (Ok r) = (ls : List Line) × IsOld text ls × (r.text.items ≡ new_text ls) × (r.entries ≡ length ls)
Rewrites text (Err (errors.Fault line fault)) = HasFirstFault text line fault
Rewrites text (Err errors.Bytes) = ⊥
Rewrites text (Err (errors.Read failed)) = ⊥
Rewrites text (Err errors.Memory) = Unit {0}

-- why a journal isn't migrated whose file can't be read whole
abbrev pub old_error_of : WholeError → OldError
old_error_of wholes.Bytes = errors.Bytes
old_error_of (wholes.Read failed) = errors.Read failed
old_error_of wholes.Memory = errors.Memory

-- what is left of a slot was read whole, as fab_base says it, and an error is one of this crate
abbrev pub WholeRead : ℕ → ℕ → Seen → Seen → Result (Vec ℕ Global) OldError → Type 0
WholeRead s limit old new (Ok v) = base.WholeRead s limit old new (Ok v)
WholeRead s limit old new (Err error) = (e : WholeError) × (error ≡ old_error_of e) × base.WholeRead s limit old new (Err e)
