-- What a bridge leaves in its outputs, by how it ends.
use Rattle.std.specs.Prelude.{◌≡◌, ℕ, ◌⊎◌, true, false, IsTrue, List, [], ◌∷◌, length, map, Some, Result, Ok, Err}
use Rattle.fab_base.specs.Ending.{end_by, Uses, IsOldOrFront}
use Rattle.fab_base.specs.Seen.{Seen, SameFiles, Nothing}
use Rattle.fab_config.specs.Settings.{Settings}
use Rattle.pcap_file.specs.declared.Budget.{Budget}
use Rattle.pcap_file.specs.declared.Record.{Record}
use Rattle.pcap_file.specs.declared.fault.GatherFault.{GatherFault}
use Rattle.pcap_file.specs.declared.fault.GatherFault.TheVariants as gather
use Rattle.pcap_file.specs.declared.fault.LimitKind.TheVariants as limit
use Rattle.pcap_file.specs.Captures.{captures_by}
use Rattle.fip_snoop.specs.Bridge.{Arrival, arrivals, is_too_long, history, passed, dropped}
use Rattle.fip_snoop.specs.Messages.{forwarder_of}
use Rattle.run_files.specs.Faults.{run_end}
use Rattle.run_files.specs.Names.{Among}
use Rattle.run_files.specs.declared.fault.RunFault.{RunFault}
use Rattle.run_files.specs.declared.fault.RunFault.TheVariants as faults
use Rattle.side_runs.specs.Crossing.{crossing, captures, IsFirstUnread}
use Rattle.side_runs.specs.Laws.{AreCaptures}
use Rattle.side_runs.specs.declared.bridge_run.Crossed.{Crossed}

-- ---- files

-- each of these files is as it was, or holds bytes with which its own begin
abbrev pub AreOldOrFront : Seen → Seen → List (List ℕ) → List (List ℕ) → Type 0
AreOldOrFront old new [] [] = Unit {0}
AreOldOrFront old new [] (whole ∷ wholes) = ⊥
AreOldOrFront old new (name ∷ names) [] = ⊥
AreOldOrFront old new (name ∷ names) (whole ∷ wholes) = IsOldOrFront old new name whole × AreOldOrFront old new names wholes

-- The headline. The inputs, as the call found them, are captures of these records, within the limits; and each output is the head and, in the
-- order in which the frames of all captures are handled, a record of each frame whose way leads to its port, the ways being
-- those of the table over what was handled before. The two numbers are of the frames that passed and of those that didn't.
pub record HasBridged (ins outs : List (List ℕ)) (budget : Budget) (c : Settings) (old new : Seen) (done : Crossed) : Type 0 where
  pub records : List (List Record)
  pub captures_ : AreCaptures (map (λ n. old.file n) ins) records
  pub taken : captures_by 1 budget (map (λ n. old.file n) ins) ≡ Ok records
  pub crosses : crossing budget (map (λ n. old.file n) ins) ≡ Ok (arrivals records)
  pub outputs : map (λ n. new.file n) outs ≡ map (λ l. Some l) (captures c (length outs) (arrivals records))
  pub passed_ : done.passed ≡ passed (history (forwarder_of c) [] (arrivals records))
  pub dropped_ : done.dropped ≡ dropped (history (forwarder_of c) [] (arrivals records))

-- The inputs are taken, and each output is as it was, or holds a front of what it would hold.
pub record HasFronts (ins outs : List (List ℕ)) (budget : Budget) (c : Settings) (old new : Seen) : Type 0 where
  pub came : List Arrival
  pub crosses : crossing budget (map (λ n. old.file n) ins) ≡ Ok came
  pub outputs : AreOldOrFront old new outs (captures c (length outs) came)

-- the inputs aren't taken, for this reason
abbrev pub HasStop : List (List ℕ) → Budget → Seen → GatherFault → Type 0
HasStop ins budget old fault = crossing budget (map (λ n. old.file n) ins) ≡ Err fault

-- ---- how it ends

-- What holds where a bridge over these inputs and outputs ends so. What is said of bytes needs a depot that tells them.
abbrev pub Ends : List (List ℕ) → List (List ℕ) → Budget → Settings → Seen → Seen → Result Crossed RunFault → Type 0
Ends ins outs budget c old new (Ok done) = IsTrue old.told → HasBridged ins outs budget c old new done
Ends ins outs budget c old new (Err (faults.Capture port at why)) = SameFiles old new × (IsTrue old.told → HasStop ins budget old (gather.Capture port at why))
Ends ins outs budget c old new (Err (faults.Limit kind)) = SameFiles old new × (IsTrue old.told → HasStop ins budget old (gather.Limit kind))
Ends ins outs budget c old new (Err faults.Read) = SameFiles old new × (IsTrue old.told → IsFirstUnread ins budget old new)
Ends ins outs budget c old new (Err faults.Write) = IsTrue old.told → HasFronts ins outs budget c old new
Ends ins outs budget c old new (Err faults.Memory) = IsTrue old.told → SameFiles old new ⊎ HasFronts ins outs budget c old new

-- However it ends, no file changes but the outputs, and of the faults of the store exactly that is counted in which it ends: one of
-- reading an input, or of writing an output.
pub record Bridges (ins outs : List (List ℕ)) (budget : Budget) (c : Settings) (old new : Seen) (result : Result Crossed RunFault) : Type 0 where
  pub ends : Ends ins outs budget c old new result
  pub uses : Uses (Among ins) (Among outs) (end_by run_end result) old new

-- ---- inside the crate

-- The same over captures that were read, before which no output was opened.
abbrev pub OverEnds : List (List ℕ) → List (List Record) → Settings → Seen → Seen → Result Crossed RunFault → Type 0
OverEnds outs ins c old new (Ok done) =
    (is_too_long (arrivals ins) ≡ false)
    × (IsTrue old.told → map (λ n. new.file n) outs ≡ map (λ l. Some l) (captures c (length outs) (arrivals ins)))
    × (done.passed ≡ passed (history (forwarder_of c) [] (arrivals ins)))
    × (done.dropped ≡ dropped (history (forwarder_of c) [] (arrivals ins)))
OverEnds outs ins c old new (Err (faults.Limit limit.Span)) = SameFiles old new × (is_too_long (arrivals ins) ≡ true)
OverEnds outs ins c old new (Err faults.Write) =
    (is_too_long (arrivals ins) ≡ false) × (IsTrue old.told → AreOldOrFront old new outs (captures c (length outs) (arrivals ins)))
OverEnds outs ins c old new (Err faults.Memory) =
    (is_too_long (arrivals ins) ≡ false) × (SameFiles old new ⊎ (IsTrue old.told → AreOldOrFront old new outs (captures c (length outs) (arrivals ins))))
OverEnds outs ins c old new (Err fault) = ⊥

pub record RunsOver (outs : List (List ℕ)) (ins : List (List Record)) (c : Settings) (old new : Seen) (result : Result Crossed RunFault) : Type 0 where
  pub ends : OverEnds outs ins c old new result
  pub uses : Uses Nothing (Among outs) (end_by run_end result) old new
