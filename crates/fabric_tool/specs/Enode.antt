-- How `enode` ends: a node is run over the frames of one capture, and what it sends is written as another.
use Rattle.std.specs.Prelude.{◌≡◌, ℕ, IsTrue, List, [], ◌∷◌, ◌++◌, Some, Ok}
use Rattle.fab_base.specs.Seen.{Seen}
use Rattle.fab_base.specs.Sunk.{Sunk}
use Rattle.pcap_file.specs.declared.Record.{Record}
use Rattle.pcap_file.specs.declared.fault.GatherFault.TheVariants as gather
use Rattle.enode_core.specs.declared.node.Phase.{Phase}
use Rattle.enode_core.specs.Phases.{phase_of}
use Rattle.enode_core.specs.Runs.{Input, IsRun, stands}
use Rattle.side_runs.specs.NodeFiles.{NodeTask, node_task, Played, IsUntaken, IsFront, taken_by}
use Rattle.fabric_tool.specs.Command.{EnodeNames}
use Rattle.fabric_tool.specs.Ending.{Ending, Never, Untouched, Leaves, Unread, Unwritten}
use Rattle.fabric_tool.specs.Inputs.{LIMITS}
use Rattle.fabric_tool.specs.Outcome.{phase_text}
use Rattle.fabric_tool.specs.declared.outcome.Outcome.{Outcome}
use Rattle.fabric_tool.specs.declared.outcome.Outcome.TheVariants as ends
use Rattle.fabric_tool.specs.Meaning.{Meaning}

-- ---- what holds where it ends so

-- what the command runs its node for
abbrev pub task_of : EnodeNames → NodeTask
task_of k = node_task k.own k.start k.from k.to LIMITS

-- The headline. The input as the call found it is a capture within the limits, of which all was read; the output is the capture of
-- what the machine of a node sends over its records from the start on, and this is its phase in the end. Whenever the node is up
-- by what it was given, a forwarder that sent all these records has granted its address (`granted` of `Played`).
abbrev pub HasPlayed : EnodeNames → Seen → Seen → Phase → Type 0
HasPlayed k old new last = Played (task_of k) old new last

-- Whatever the end: the output is as it was, or holds a front of what it would hold.
abbrev pub HasEnodeFront : EnodeNames → Seen → Seen → Type 0
HasEnodeFront k old new = IsFront (task_of k) old new

-- What holds where `enode` ends so. The output is opened only behind the whole input and all that is sent for it, and the line of a
-- phase takes no memory. What is said of bytes needs a depot that tells them. No fault of the depot is passed over: where it isn't
-- told, no count of such faults has changed.
abbrev pub enode_ending : EnodeNames → Seen → Seen → Outcome → Ending
enode_ending k old new (ends.Stood last) = Leaves (HasPlayed k old new last)
enode_ending k old new (ends.Capture port at why) = Untouched (IsUntaken k.start k.from LIMITS old (gather.Capture port at why))
enode_ending k old new (ends.Limit kind) = Untouched (IsUntaken k.start k.from LIMITS old (gather.Limit kind))
enode_ending k old new ends.ReadFault = Unread (Unit {0})
enode_ending k old new ends.WriteFault = Unwritten (HasEnodeFront k old new)
enode_ending k old new ends.Memory = Untouched (Unit {0})
enode_ending k old new _ = Never

-- ---- by status

-- Status 0: the node ran over its input, and its last phase was printed.
pub record EnodeEnded (k : EnodeNames) (old new : Seen) (before after : Sunk) : Type 0 where
  pub last : Phase
  pub done : HasPlayed k old new last
  pub printed : IsTrue before.told → after.written ≡ before.written ++ phase_text last

-- ---- where nothing fails

-- the input has its form: a capture within the limits that doesn't reach too far
pub record EnodeForms (k : EnodeNames) (d : Seen) : Type 0 where
  pub told : IsTrue d.told
  pub bytes : List ℕ
  pub records : List Record
  pub file : d.file k.from ≡ Some bytes
  pub taken : taken_by LIMITS k.start bytes ≡ Ok records

-- the input is such a capture, and the node stands so in the end of its run
pub record HasStood (k : EnodeNames) (d : Seen) (last : Phase) : Type 0 where
  pub bytes : List ℕ
  pub records : List Record
  pub file : d.file k.from ≡ Some bytes
  pub taken : taken_by LIMITS k.start bytes ≡ Ok records
  pub inputs : List Input
  pub run : IsRun k.own k.start records inputs
  pub is : last ≡ phase_of (stands k.own k.start inputs)

-- the outcome that the input names: the end of its run, or why it isn't taken
abbrev pub EnodeSays : EnodeNames → Seen → Outcome → Type 0
EnodeSays k d (ends.Stood last) = HasStood k d last
EnodeSays k d (ends.Capture port at why) = IsUntaken k.start k.from LIMITS d (gather.Capture port at why)
EnodeSays k d (ends.Limit kind) = IsUntaken k.start k.from LIMITS d (gather.Limit kind)
EnodeSays k d _ = ⊥

-- ---- the command

abbrev pub enode_meaning : EnodeNames → Meaning
enode_meaning k = record {
  reads = k.from ∷ [];
  writes = k.to ∷ [];
  end = enode_ending k;
  Done = λ old new before after. IsTrue old.told → EnodeEnded k old new before after;
  Front = HasEnodeFront k;
  Forms = EnodeForms k;
  Says = EnodeSays k;
}
