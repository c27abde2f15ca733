-- What stands between the windows of a check. No public clause cites this module.
use Rattle.std.specs.Prelude.{◌≡◌, ℕ, ◌+◌, ◌≤◌, IsTrue, IfSome, List, length, MatchResult, None, Some, Result, Err, slice_get}
use Rattle.fab_base.specs.Ending.{end_by, SparesReads}
use Rattle.fab_base.specs.Seen.{Seen, Touches, Nothing, SameWriteFaults}
use Rattle.pcap_file.specs.declared.Record.{Record}
use Rattle.fab_config.specs.Settings.{Settings}
use Rattle.fab_policy.specs.Journal.{Journal}
use Rattle.fab_policy.specs.Legal.{of_port}
use Rattle.window_records.specs.Looks.{stop, all_records}
use Rattle.fab_policy.specs.Standing.{Contents}
use Rattle.pcap_file.specs.declared.fault.GatherFault.{GatherFault}
use Rattle.pcap_file.specs.declared.fault.GatherFault.TheVariants as gather_fault
use Rattle.window_records.specs.First.{IsNextWindow}
use Rattle.fab_base.specs.Slots.{NameIn}
use Rattle.window_records.specs.Ports.{AreInputs, TakesFrom, Walk}
use Rattle.window_records.specs.Walked.{Walked}
use Rattle.window_records.specs.declared.shelf.Shelf.{Shelf}
use Rattle.fab_replay.specs.Check.{Task, captures_in, matter_of, slots_in}
use Rattle.fab_replay.specs.CheckFrom.{ChecksFrom, LeavesFrom}
use Rattle.fab_replay.specs.Counts.{check_end}
use Rattle.fab_replay.specs.Lines.{IsInside}
use Rattle.fab_replay.specs.Owed.{AreMany, IsOwed}
use Rattle.fab_replay.specs.Steps.{AreFirsts, Scene, IsAlong, IsIdle, IsReached}
use Rattle.fab_replay.specs.declared.fault.CheckFault.{CheckFault}
use Rattle.fab_replay.specs.declared.fault.CheckFault.TheVariants as fault
use Rattle.fab_replay.specs.declared.windows.Course.{Course}
use Rattle.fab_replay.specs.declared.windows.Written.{Written}

-- ---- between windows

-- a task has this journal, these numbers of frames before it, and these outputs
pub record IsOf (k : Task) (w : Written) : Type 0 where
  pub journal : k.bytes ≡ w.journal.now
  pub firsts : AreFirsts k.from.firsts w.firsts.now
  pub outputs : k.outs ≡ w.outs.now

abbrev pub scene_of : Task → Scene
scene_of k = record {
  settings = k.settings;
  from = k.from;
  records = all_records (captures_in k);
  stop = stop k.settings k.start.left.bytes k.start.left.frames (captures_in k);
  bytes = k.bytes;
}

-- the names that a check may count faults of
abbrev pub OfTask : Task → List ℕ → Type 0
OfTask k m = NameIn k.start.seen (slots_in k) m

-- of each port as many frames have lines as were taken
abbrev pub HaveLines : Journal → List (List Record) → Type 0
HaveLines J taken = (q : ℕ) (records : List Record) → slice_get taken q ≡ Some records → length (of_port (q + 1) J) ≡ length records

-- Where a check stands: the fabric, how far it came, and the captures.
pub record Stand : Type 0 where
  pub fabric : Contents
  pub course : Course
  pub walk : Walk

abbrev pub stand_at : Contents → Course → Walk → Stand
stand_at F course walk = record { fabric = F; course = course; walk = walk }

-- the next window isn't before the clock
abbrev pub IsNotEarly : Settings → List Shelf → Contents → Type 0
IsNotEarly c shelves F = (v : ℕ) → IsNextWindow c shelves (Some v) → IfSome F.state.tables.clock (λ t. t ≤ v)

-- What stands before a window: which records were taken, how far the captures were read, and, where the depot tells, that the lines
-- so far are right and name the frames of these records, and that the outputs were read against what they send.
pub record Going (k : Task) (w : ℕ) (s : Stand) : Type 0 where
  pub inputs : AreInputs k.start.seen (slots_in k)
  pub ports : length k.start.ins ≤ 64
  pub firsts : length k.from.firsts ≡ length k.start.ins
  pub outputs : length k.outs ≤ length k.start.ins
  pub many : AreMany (length k.outs) s.course.owed
  pub touches : Touches Nothing (OfTask k) k.start.seen s.walk.seen
  pub taken : List (List Record)
  pub walked : Walked k.settings k.start w s.course.first taken s.walk
  pub settings_ : s.fabric.settings ≡ k.settings
  pub count_ : s.fabric.count ≡ length k.start.ins
  pub clock : IsNotEarly k.settings s.walk.shelves s.fabric
  pub idle : IsIdle s.fabric
  pub inside : IsInside k.bytes s.course.place
  pub stood : (J : Journal) × IsAlong (scene_of k) k.start.seen.told J s.fabric s.course.place × (IsTrue k.start.seen.told → HaveLines J taken)
  pub lines : IsTrue k.start.seen.told →
      (J : Journal) × IsReached (scene_of k) J s.fabric s.course.place × HaveLines J taken × IsOwed k.settings (length (scene_of k).records) k.from k.start.seen s.walk.seen k.outs J s.course.owed

-- the check of a task ended with this fault
abbrev pub Ended : Task → Seen → CheckFault → Type 0
Ended k d e = (F : Contents) → ChecksFrom k d F (Err e)

-- what a fabric stands for then
abbrev pub RemainsOf : Task → Contents → Result ℕ CheckFault → Type 0
RemainsOf k F r = LeavesFrom k.settings k.from k.start.left (matter_of k) k.start.seen.told F r

abbrev pub LeftBy : Task → Contents → CheckFault → Type 0
LeftBy k F e = RemainsOf k F (Err e)

-- The check of a task ended: what it answers, and what the fabric stands for.
pub record Ends (k : Task) (d : Seen) (F : Contents) (result : Result ℕ CheckFault) : Type 0 where
  pub checks : ChecksFrom k d F result
  pub leaves : RemainsOf k F result

-- What the check of all windows comes to: none is left, or the check ended. However it ends, the configuration and the slots of the
-- captures stay, the budget isn't raised, and the faults are counted that it tells.
pub record Turns (w : Written) (a b : Stand) (result : Result (Unit {0}) CheckFault) : Type 0 where
  pub turns : (k : Task) → IsOf k w → Going k 0 a → MatchResult result (λ _. (v : ℕ) × Going k v b × IsNextWindow k.settings b.walk.shelves None) (λ e. Ends k b.walk.seen b.fabric (Err e))
  pub settings : b.fabric.settings ≡ a.fabric.settings
  pub count : b.fabric.count ≡ a.fabric.count
  pub takes : TakesFrom a.walk.ins b.walk.ins a.walk.left b.walk.left
  pub counts : SparesReads (end_by check_end result) a.walk.seen b.walk.seen × SameWriteFaults a.walk.seen b.walk.seen

-- ---- one window

-- what a fault of gathering ends a check with
abbrev pub check_fault : GatherFault → CheckFault
check_fault (gather_fault.Capture port at w) = fault.Capture port at w
check_fault (gather_fault.Limit kind) = fault.Limit kind
check_fault gather_fault.Read = fault.Read
check_fault gather_fault.Memory = fault.Memory
