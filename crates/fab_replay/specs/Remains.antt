-- What a fabric stands for after the check of a journal, however the check ended.
use Rattle.std.specs.Prelude.{◌≡◌, ℕ, ◌≤◌, ◌⊎◌, Bool, true, false, IsTrue, List, [], ◌∷◌, ◌++◌, length, Option, Result, Ok, Err}
use Rattle.fab_base.specs.declared.values.Caught.{Caught}
use Rattle.fab_config.specs.Settings.{Settings}
use Rattle.pcap_file.specs.declared.Record.{Record}
use Rattle.fab_policy.specs.Journal.{Journal}
use Rattle.fab_policy.specs.Legal.{HasPorts, Legal, Timed}
use Rattle.fab_policy.specs.Ranged.{IsRanged}
use Rattle.fab_policy.specs.Spelling.{Spells}
use Rattle.fab_policy.specs.Standing.{Contents, Stands}
use Rattle.fab_policy.specs.declared.event.Event.{Event}
use Rattle.fab_policy.specs.declared.event.Event.TheVariants as event
use Rattle.fab_policy.specs.declared.line.Format.{Format}
use Rattle.fab_policy.specs.declared.line.Line.TheVariants.{Frame}
use Rattle.fab_policy.specs.declared.verdict.Verdict.{Verdict}
use Rattle.fab_replay.specs.Front.{HoldsFronts, expects_tick}
use Rattle.fab_replay.specs.Lines.{first_line, format_of, number_behind, text_in}
use Rattle.fab_replay.specs.declared.fault.CheckFault.{CheckFault}
use Rattle.fab_replay.specs.declared.fault.CheckFault.TheVariants as fault
use Rattle.fab_replay.specs.declared.fault.LineWhy.TheVariants as why

-- The entries are a beginning of what the captures hold: each port's frames are the first of its records, once and in order,
-- and each entry comes in time.
pub record IsBegun (c : Settings) (ins : List (List Record)) (J : Journal) : Type 0 where
  pub ports : HasPorts (length ins) J
  pub frames : HoldsFronts J ins
  pub timed : Timed c ins J

-- The one entry is the frame of the line at the front of a text, with another verdict than the line tells.
pub record IsRighted (f : Format) (rest : List ℕ) (found made : Verdict) (more : List Event) : Type 0 where
  pub port : ℕ
  pub index : ℕ
  pub caught : Caught
  pub told : Option ℕ
  pub line : Spells f (first_line rest) (Frame port index found told)
  pub is : more ≡ event.Frame port index caught made ∷ []

-- the one entry is a tick
abbrev pub IsTick : List Event → Type 0
IsTick more = (m : ℕ) × (ended : List ℕ) × (more ≡ event.Tick m ended ∷ [])

-- What a fabric has taken behind the entries of the lines that are right: nothing, or the frame whose verdict is wrong, with
-- the right one; where a tick is wrong, maybe the right tick, and where memory is refused, at most one entry.
abbrev pub IsTaken : Format → Journal → List ℕ → List Event → Result ℕ CheckFault → Type 0
IsTaken f J rest more (Ok entries) = (entries ≡ length J) × (more ≡ [])
IsTaken f J rest more (Err (fault.Line n (why.Verdict found made))) = (n ≡ number_behind f (length J)) × IsRighted f rest found made more
IsTaken f J rest more (Err (fault.Line n why.Tick)) = (n ≡ number_behind f (length J)) × ((more ≡ []) ⊎ IsTick more)
IsTaken f J rest more (Err (fault.Line n y)) = (n ≡ number_behind f (length J)) × (more ≡ [])
IsTaken f J rest more (Err fault.Memory) = length more ≤ 1
IsTaken f J rest more (Err e) = more ≡ []

-- the tick, if one is expected
abbrev pub IsTickIf : Bool → List Event → Type 0
IsTickIf true more = IsTick more
IsTickIf false more = more ≡ []

-- Where a tick is wrong, the right one is taken if one is expected.
abbrev pub HasTick : Bool → List Event → Result ℕ CheckFault → Type 0
HasTick expected more (Err (fault.Line n why.Tick)) = IsTickIf expected more
HasTick expected more r = Unit {0}

-- The fabric stands for a legal journal: the entries of the text's lines before some place, and at most one behind them. Where
-- the captures are known, its frames are theirs, once and in order.
pub record Remains (c : Settings) (ins : List (List Record)) (told : Bool) (text : List ℕ) (F : Contents) (result : Result ℕ CheckFault) : Type 0 where
  pub entry_list : Journal
  pub rest : List ℕ
  pub lines : text ≡ text_in (format_of text) entry_list ++ rest
  pub ranged : IsRanged entry_list
  pub more : List Event
  pub taken : IsTaken (format_of text) entry_list rest more result
  pub legal : Legal c (more ++ entry_list)
  pub stands : Stands F (more ++ entry_list)
  pub begun : IsTrue told → IsBegun c ins (more ++ entry_list)
  pub tick : IsTrue told → HasTick (expects_tick c ins entry_list) more result
