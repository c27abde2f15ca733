-- What reading the inputs and opening the outputs does.
use Rattle.std.specs.Prelude.{◌≡◌, ℕ, ◌+◌, ◌≤◌, IsTrue, List, [], ◌∷◌, ◌++◌, length, map, Option, Result, Ok, Err, IfOk, IfErr, Vec}
use Rattle.std.specs.declared.alloc.Global.{Global}
use Rattle.arrayvec.specs.ArrayVec.{ArrayVec}
use Rattle.fab_base.specs.Ending.{end_by, Uses}
use Rattle.fab_base.specs.Seen.{Seen, Nothing, Only}
use Rattle.fab_base.specs.declared.values.Failed.{Failed}
use Rattle.pcap_file.specs.declared.Budget.{Budget}
use Rattle.pcap_file.specs.declared.Record.{Record}
use Rattle.pcap_file.specs.Records.{Ascends}
use Rattle.pcap_file.specs.Faults.{gather_end, IsStopped}
use Rattle.pcap_file.specs.declared.fault.GatherFault.{GatherFault}
use Rattle.pcap_file.specs.declared.fault.GatherFault.TheVariants as gather
use Rattle.pcap_file.specs.Captures.{AreFit, unless_stopped, captures_by}
use Rattle.fip_snoop.specs.Queue.{AllAscend}
use Rattle.run_files.specs.Names.{Among}
use Rattle.run_files.specs.Opening.{AllOpened}
use Rattle.side_runs.specs.Crossing.{IsFirstUnread}
use Rattle.side_runs.specs.Records.{AllFit, count_in}

-- ---- inputs

-- these records in front of those of later ports
abbrev pub in_front : List (List Record) → Result (List (List Record)) GatherFault → Result (List (List Record)) GatherFault
in_front ins later = unless_stopped later (λ rest. Ok (ins ++ rest))

-- Reading the capture of a port under this name: it is taken off the budget, or stops the reading of all, whatever files come
-- behind it.
pub record ReadsInput (port : ℕ) (name : List ℕ) (a b : Seen) (had left : Budget) (result : Result (List Record) GatherFault) : Type 0 where
  pub uses : Uses (Only name) Nothing (end_by gather_end result) a b
  pub fit : IfOk result (λ records. AreFit records × Ascends 0 records)
  pub frames : IfOk result (λ records. left.frames + length records ≡ had.frames)
  pub taken : IsTrue a.told → (later : List (Option (List ℕ))) → IfOk result (λ records. captures_by port had (a.file name ∷ later) ≡ in_front (records ∷ []) (captures_by (port + 1) left later))
  pub stops : IsTrue a.told → (later : List (Option (List ℕ))) → IfErr result (λ e. IsStopped e → captures_by port had (a.file name ∷ later) ≡ Err e)

-- what the captures of all ports have, told or not
pub record AreRead (names : List (List ℕ)) (budget : Budget) (ins : List (List Record)) : Type 0 where
  pub count : length ins ≡ length names
  pub fit : AllFit ins
  pub ascend : AllAscend ins
  pub frames : count_in ins ≤ budget.frames

-- Reading the captures under these names, in port order: they are as `captures_by` says of the files.
pub record ReadsInputs (names : List (List ℕ)) (a b : Seen) (budget : Budget) (result : Result (Vec (List Record) Global) GatherFault) : Type 0 where
  pub uses : Uses (Among names) Nothing (end_by gather_end result) a b
  pub are : IfOk result (λ v. AreRead names budget v.items)
  pub taken : IsTrue a.told → IfOk result (λ v. captures_by 1 budget (map (λ n. a.file n) names) ≡ Ok v.items)
  pub stops : IsTrue a.told → IfErr result (λ e. IsStopped e → captures_by 1 budget (map (λ n. a.file n) names) ≡ Err e)
  pub first : IsTrue a.told → IfErr result (λ e. e ≡ gather.Read → IsFirstUnread names budget a b)

-- ---- outputs

-- Outputs were opened in this order, up to the first that couldn't be.
abbrev pub OpensOutputs : List (List ℕ) → Seen → Seen → Result (ArrayVec ℕ) Failed → Type 0
OpensOutputs = AllOpened {T = ArrayVec ℕ} (λ slots. slots.items)
