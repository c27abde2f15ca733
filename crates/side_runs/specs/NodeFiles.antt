-- What a node does with files: a capture that its port receives, and the capture of what it sends.
use Rattle.std.specs.Prelude.{◌≡◌, ℕ, if◌then◌else◌, IsTrue, List, Some, Result, Ok, Err}
use Rattle.fab_base.specs.Ending.{HoldsSome}
use Rattle.fab_base.specs.Seen.{Seen, SameFiles}
use Rattle.pcap_file.specs.declared.Budget.{Budget}
use Rattle.pcap_file.specs.declared.Record.{Record}
use Rattle.pcap_file.specs.declared.fault.LimitKind.TheVariants as limit
use Rattle.pcap_file.specs.declared.fault.GatherFault.{GatherFault}
use Rattle.pcap_file.specs.declared.fault.GatherFault.TheVariants as gather
use Rattle.run_files.specs.declared.fault.RunFault.{RunFault}
use Rattle.run_files.specs.declared.fault.RunFault.TheVariants as faults
use Rattle.pcap_file.specs.Captures.{unless_stopped, capture_by}
use Rattle.enode_core.specs.declared.node.Identity.{Identity}
use Rattle.enode_core.specs.declared.node.Phase.{Phase}
use Rattle.enode_core.specs.Phases.{phase_of}
use Rattle.enode_core.specs.Runs.{Input, IsRun, is_too_long, stands, all_sent}
use Rattle.enode_core.specs.RunLaws.{IsGrantedBy}
use Rattle.side_runs.specs.Course.{capture}

-- What a node is run for: who it is, the moment that it starts at, the names of its input and its output, and the limits of the
-- input.
pub record NodeTask : Type 0 where
  pub own : Identity
  pub start : ℕ
  pub from : List ℕ
  pub to : List ℕ
  pub budget : Budget

-- such a task of its parts
abbrev pub node_task : Identity → ℕ → List ℕ → List ℕ → Budget → NodeTask
node_task own start from to budget = record { own = own; start = start; from = from; to = to; budget = budget }

-- ---- the input

-- a capture that reaches too far isn't taken
abbrev pub unless_too_long : ℕ → List Record → Result (List Record) GatherFault
unless_too_long start records = if is_too_long start records then Err (gather.Limit limit.Span) else Ok records

-- What a file is to a node that starts at a moment: the records of its capture, which counts as that of port 1, or why it isn't
-- taken. How far it reaches is tested last.
abbrev pub taken_by : Budget → ℕ → List ℕ → Result (List Record) GatherFault
taken_by budget start l = unless_stopped (capture_by 1 budget l) (λ t. unless_too_long start t.records)

-- the input isn't taken for this reason
pub record IsUntaken (start : ℕ) (from : List ℕ) (budget : Budget) (d : Seen) (fault : GatherFault) : Type 0 where
  pub bytes : List ℕ
  pub found : d.file from ≡ Some bytes
  pub says : taken_by budget start bytes ≡ Err fault

-- ---- the output

-- The input that was found is a capture within the limits, the node was given all its records from the start on, the output is the
-- capture of what it sent, and this is its phase in the end. Where a forwarder has sent all these records, the node was granted the
-- address that it is up with.
pub record Played (task : NodeTask) (old new : Seen) (phase : Phase) : Type 0 where
  pub bytes : List ℕ
  pub records : List Record
  pub inputs : List Input
  pub found : old.file task.from ≡ Some bytes
  pub taken : taken_by task.budget task.start bytes ≡ Ok records
  pub run : IsRun task.own task.start records inputs
  pub output : new.file task.to ≡ Some (capture (all_sent task.own task.start inputs))
  pub stands_so : phase ≡ phase_of (stands task.own task.start inputs)
  pub granted : IsGrantedBy task.own task.start records inputs

-- The output is as it was, or it holds a front of the capture of what the node sends over the input that was found.
pub data IsFront (task : NodeTask) (old new : Seen) : Type 0 where
  Same : new.file task.to ≡ old.file task.to → IsFront task old new
  Front : (bytes : List ℕ) (records : List Record) (inputs : List Input) → old.file task.from ≡ Some bytes → taken_by task.budget task.start bytes ≡ Ok records → IsRun task.own task.start records inputs →
      HoldsSome new task.to (capture (all_sent task.own task.start inputs)) → IsFront task old new

-- How running a node over files ends. The output is opened only behind the whole input and all that is sent for it: only where it
-- couldn't be written, a front of it may stand.
abbrev pub RunsNode : NodeTask → Seen → Seen → Result Phase RunFault → Type 0
RunsNode task old new (Ok phase) = IsTrue old.told → Played task old new phase
RunsNode task old new (Err (faults.Capture port at why)) = SameFiles old new × (IsTrue old.told → IsUntaken task.start task.from task.budget old (gather.Capture port at why))
RunsNode task old new (Err (faults.Limit kind)) = SameFiles old new × (IsTrue old.told → IsUntaken task.start task.from task.budget old (gather.Limit kind))
RunsNode task old new (Err faults.Read) = SameFiles old new
RunsNode task old new (Err faults.Write) = IsTrue old.told → IsFront task old new
RunsNode task old new (Err faults.Memory) = SameFiles old new
