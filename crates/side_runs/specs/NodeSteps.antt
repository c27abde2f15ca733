-- What the two steps of a run over files do; private functions alone cite this.
use Rattle.std.specs.Prelude.{◌≡◌, ℕ, IsTrue, List, Some, Result, Ok, IfOk, IfErr, OnOk, OnErr}
use Rattle.fab_base.specs.Ending.{Write, end_by, Uses, IsOldOrFront}
use Rattle.fab_base.specs.Seen.{Seen, Nothing, Only}
use Rattle.pcap_file.specs.declared.Budget.{Budget}
use Rattle.pcap_file.specs.declared.Record.{Record}
use Rattle.pcap_file.specs.Faults.{gather_end, IsStopped}
use Rattle.pcap_file.specs.declared.fault.GatherFault.{GatherFault}
use Rattle.side_runs.specs.Course.{AreFar}
use Rattle.side_runs.specs.NodeFiles.{taken_by, IsUntaken}

-- the file of a name is a capture that is taken, with these records
pub record IsTaken (start : ℕ) (from : List ℕ) (budget : Budget) (d : Seen) (records : List Record) : Type 0 where
  pub bytes : List ℕ
  pub found : d.file from ≡ Some bytes
  pub says : taken_by budget start bytes ≡ Ok records

-- What reading the input whole does.
pub record ReadsInput (start : ℕ) (from : List ℕ) (budget : Budget) (a b : Seen) (result : Result (List Record) GatherFault) : Type 0 where
  pub uses : Uses (Only from) Nothing (end_by gather_end result) a b
  pub far : IfOk result AreFar
  pub taken : IsTrue a.told → IfOk result (IsTaken start from budget a)
  pub stops : IsTrue a.told → IfErr result (λ e. IsStopped e → IsUntaken start from budget a e)

-- What writing a file does.
pub record WritesFile {T E : Type 0} (to bytes : List ℕ) (a b : Seen) (result : Result T E) : Type 0 where
  pub uses : Uses Nothing (Only to) (end_by (λ e. Write) result) a b
  pub whole : IsTrue a.told → OnOk result (b.file to ≡ Some bytes)
  pub part : IsTrue a.told → OnErr result (IsOldOrFront a b to bytes)
