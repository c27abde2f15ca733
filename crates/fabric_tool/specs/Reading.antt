-- What reading an input answers.
use Rattle.std.specs.Prelude.{◌≡◌, ℕ, ◌+◌, ◌*◌, ◌<◌, ◌≤◌, ◌⊎◌, IsTrue, List, [], ◌∷◌, length, Ok, Err, Result, IfOk, IfErr, Vec}
use Rattle.std.specs.declared.alloc.Global.{Global}
use Rattle.fab_base.specs.Ending.{end_by, Uses}
use Rattle.fab_base.specs.Seen.{Seen, Nothing, Only}
use Rattle.fab_config.specs.Settings.{Settings}
use Rattle.fab_config.specs.Text.{decoded}
use Rattle.fab_config.specs.declared.ConfigFault.{ConfigFault}
use Rattle.fab_config.specs.declared.reading.ConfigError.{ConfigError}
use Rattle.fab_config.specs.declared.reading.ConfigError.TheVariants as errors
use Rattle.pcap_file.specs.Capture.{HEAD}
use Rattle.pcap_file.specs.declared.Budget.{Budget}
use Rattle.pcap_file.specs.declared.CapOpen.{CapOpen}
use Rattle.pcapng_file.specs.declared.fault.NgError.{NgError}
use Rattle.pcapng_file.specs.declared.fault.NgError.TheVariants as ng
use Rattle.window_records.specs.First.{IsFresh, opened_by}
use Rattle.pcap_file.specs.Faults.{open_fault_by}
use Rattle.window_records.specs.declared.shelf.Input.{Input}
use Rattle.pcap_file.specs.declared.fault.LimitKind.TheVariants as kinds
use Rattle.fab_migrate.specs.declared.old.OldError.{OldError}
use Rattle.fab_migrate.specs.declared.old.OldError.TheVariants as olds
use Rattle.run_files.specs.Faults.{fault_from}
use Rattle.run_files.specs.Names.{Among}
use Rattle.fabric_tool.specs.Inputs.{HasConfig, HasFault, IsOpened, HasNoHead, IsFirstWithout, HaveNoRoom, IsFirstUnread}
use Rattle.fabric_tool.specs.Opening.{stopped_by}
use Rattle.fabric_tool.specs.Outcome.{kind_of, outcome_end}
use Rattle.fabric_tool.specs.declared.outcome.Outcome.{Outcome}
use Rattle.fabric_tool.specs.declared.outcome.Outcome.TheVariants as ends

-- ---- a configuration

-- the outcomes of reading a configuration
abbrev pub IsConfigEnd : Outcome → Type 0
IsConfigEnd o = ((fault : ConfigFault) × (o ≡ ends.Config fault)) ⊎ ((o ≡ ends.ReadFault) ⊎ (o ≡ ends.Memory))

-- what an error of its reading ends a command with
abbrev pub misread_by : ConfigError → Outcome
misread_by (errors.Fault fault) = ends.Config fault
misread_by errors.Memory = ends.Memory

-- a configuration that is left of a slot
pub record TextRead (s : ℕ) (old new : Seen) (result : Result Settings Outcome) : Type 0 where
  pub uses : Uses (Only (old.name s)) Nothing (end_by outcome_end result) old new
  pub ok : IsTrue old.told → IfOk result (λ c. decoded (old.left s) ≡ Ok c)
  pub fault : IsTrue old.told → IfErr result (λ o. (f : ConfigFault) → o ≡ ends.Config f → decoded (old.left s) ≡ Err f)
  pub only : IfErr result IsConfigEnd

-- a configuration under a name
pub record ConfigRead (name : List ℕ) (old new : Seen) (result : Result Settings Outcome) : Type 0 where
  pub uses : Uses (Only name) Nothing (end_by outcome_end result) old new
  pub ok : IsTrue old.told → IfOk result (λ c. HasConfig old name c)
  pub fault : IsTrue old.told → IfErr result (λ o. (f : ConfigFault) → o ≡ ends.Config f → HasFault old name f)
  pub only : IfErr result IsConfigEnd

-- ---- the heads of captures

-- what an error of opening a port's capture ends a command with
abbrev pub unopened_by : CapOpen → ℕ → Outcome
unopened_by error port = stopped_by (fault_from (open_fault_by error port))

-- an input under a name, of which the head was read and nothing else is given yet
pub record IsHead (old d : Seen) (name : List ℕ) (i : Input) : Type 0 where
  pub slot : IsTrue (d.input i.slot)
  pub name_ : d.name i.slot ≡ name
  pub fresh : IsFresh i.reader
  pub opened : IsTrue old.told → IsOpened old name (opened_by d i.slot i.reader)

-- what an outcome says of reading the head of a port's capture within so many bytes
abbrev pub HeadEnds : ℕ → List ℕ → ℕ → Seen → Outcome → Type 0
HeadEnds port name bytes old (ends.Capture p at reason) = (p ≡ port) × (at ≡ 0) × (HEAD ≤ bytes) × (IsTrue old.told → HasNoHead old name reason)
HeadEnds port name bytes old (ends.Limit kind) = (kind ≡ kinds.Bytes) × (bytes < HEAD)
HeadEnds port name bytes old ends.ReadFault = Unit {0}
HeadEnds port name bytes old _ = ⊥

-- the head of a port's capture
pub record HeadRead (port : ℕ) (name : List ℕ) (old new : Seen) (had left : Budget) (result : Result Input Outcome) : Type 0 where
  pub uses : Uses (Only name) Nothing (end_by outcome_end result) old new
  pub head : IfOk result (λ i. IsHead old new name i)
  pub taken : IfOk result (λ i. (left.bytes + HEAD ≡ had.bytes) × (left.frames ≡ had.frames))
  pub ended : IfErr result (HeadEnds port name had.bytes old)

-- ---- the heads of all captures

-- inputs under these names
abbrev pub AreHeads : Seen → Seen → List (List ℕ) → List Input → Type 0
AreHeads old d [] [] = Unit {0}
AreHeads old d [] (i ∷ ins) = ⊥
AreHeads old d (name ∷ names) [] = ⊥
AreHeads old d (name ∷ names) (i ∷ ins) = IsHead old d name i × AreHeads old d names ins

-- what an outcome says of reading them within so many bytes
abbrev pub HeadsEnd : List (List ℕ) → ℕ → Seen → Seen → Outcome → Type 0
HeadsEnd names bytes old new (ends.Capture port at reason) = (at ≡ 0) × (HEAD * port ≤ bytes) × (IsTrue old.told → IsFirstWithout names old port reason)
HeadsEnd names bytes old new (ends.Limit kind) = (kind ≡ kinds.Bytes) × (bytes < HEAD * length names) × (IsTrue old.told → HaveNoRoom names old bytes)
HeadsEnd names bytes old new ends.ReadFault = IsTrue old.told → IsFirstUnread names old new bytes
HeadsEnd names bytes old new ends.Memory = Unit {0}
HeadsEnd names bytes old new _ = ⊥

-- the heads of the captures under these names, in their order
pub record HeadsRead (names : List (List ℕ)) (old new : Seen) (had left : Budget) (result : Result (Vec Input Global) Outcome) : Type 0 where
  pub uses : Uses (Among names) Nothing (end_by outcome_end result) old new
  pub heads : IfOk result (λ v. AreHeads old new names v.items)
  pub taken : IfOk result (λ v. (left.bytes + HEAD * length names ≡ had.bytes) × (left.frames ≡ had.frames))
  pub ended : IfErr result (HeadsEnd names had.bytes old new)

-- ---- a pcapng file

-- what an error of its reading ends a command with
abbrev pub unconverted_by : NgError → Outcome
unconverted_by (ng.Fault at fault) = ends.BadBlock at fault
unconverted_by (ng.Limit limit) = ends.Limit (kind_of limit)
unconverted_by (ng.Read failed) = ends.ReadFault
unconverted_by ng.Memory = ends.Memory

-- ---- a journal to migrate

abbrev pub unmigrated_by : OldError → Outcome
unmigrated_by (olds.Fault line fault) = ends.BadLine line fault
unmigrated_by olds.Bytes = ends.Limit kinds.Bytes
unmigrated_by (olds.Read failed) = ends.ReadFault
unmigrated_by olds.Memory = ends.Memory
