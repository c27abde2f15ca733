-- How `run` ends: a forwarder runs over the captures of its ports.
use Rattle.std.specs.Prelude.{◌≡◌, ℕ, ◌⊎◌, ◌∷◌, ◌++◌, IsTrue, List, None}
use Rattle.fab_base.specs.Seen.{SameFiles, Seen}
use Rattle.fab_base.specs.Sunk.{Sunk}
use Rattle.fab_config.specs.Settings.{Settings}
use Rattle.window_records.specs.Looks.{Opened}
use Rattle.pcap_file.specs.declared.fault.CapWhy.{CapWhy}
use Rattle.fabric_tool.specs.Command.{RunNames}
use Rattle.fabric_tool.specs.Ending.{Ending, Leaves, LeavesUnread, LeavesUnwritten, Never, Untouched}
use Rattle.fabric_tool.specs.Inputs.{HasBadHead, HasFault, HasInputs, StopsBy, stop_of}
use Rattle.fabric_tool.specs.Left.{HasFrontPart, HasRun, HasStopped, IsRunUnread}
use Rattle.fabric_tool.specs.Meaning.{Meaning}
use Rattle.fabric_tool.specs.Outcome.{run_text}
use Rattle.fabric_tool.specs.declared.outcome.Outcome.{Outcome}
use Rattle.fabric_tool.specs.declared.outcome.Outcome.TheVariants as ends
use Rattle.run_files.specs.declared.fault.RunFault.TheVariants as faults

-- A capture of `run` is refused at a place: its head has a fault, and no file has changed; or the reading of the captures stops
-- there, and the outputs hold a run up to it.
abbrev pub IsCaptureRefused : RunNames → ℕ → ℕ → CapWhy → Seen → Seen → Type 0
IsCaptureRefused k port at why old new =
    (SameFiles old new × (at ≡ 0) × HasBadHead k old port why) ⊎ HasStopped k (faults.Capture port at why) old new

-- how `run` ends
abbrev pub run_ending : RunNames → Seen → Seen → Outcome → Ending
run_ending k old new (ends.Ran frames entries) = Leaves (HasRun k frames entries old new)
run_ending k old new (ends.Config fault) = Untouched (HasFault old k.config fault)
run_ending k old new (ends.Capture port at why) = Leaves (IsCaptureRefused k port at why old new)
run_ending k old new (ends.Limit kind) = Leaves (HasStopped k (faults.Limit kind) old new)
run_ending k old new ends.ReadFault = LeavesUnread (IsRunUnread k old new)
run_ending k old new ends.WriteFault = LeavesUnwritten (SameFiles old new ⊎ HasFrontPart k old new)
run_ending k old new ends.Memory = Leaves (SameFiles old new ⊎ HasFrontPart k old new)
run_ending k old new _ = Never

-- ---- by status

-- Status 0 of `run`: the files are those of a run, and the line with its numbers was printed.
pub record RunEnded (k : RunNames) (old new : Seen) (before after : Sunk) : Type 0 where
  pub frames : ℕ
  pub entries : ℕ
  pub run : HasRun k frames entries old new
  pub printed : IsTrue before.told → after.written ≡ before.written ++ run_text frames entries

-- ---- where nothing fails

-- the files of a `run` have their forms, and the reading of the captures stops nowhere
pub record RunForms (k : RunNames) (d : Seen) : Type 0 where
  pub told : IsTrue d.told
  pub settings : Settings
  pub opened : List Opened
  pub inputs : HasInputs k d settings opened
  pub none : stop_of settings opened ≡ None

-- what the inputs of `run` are refused for: the configuration's fault, the first bad head, or where the reading stops
abbrev pub RunSays : RunNames → Seen → Outcome → Type 0
RunSays k d (ends.Config fault) = HasFault d k.config fault
RunSays k d (ends.Capture port at why) = ((at ≡ 0) × HasBadHead k d port why) ⊎ StopsBy k d (faults.Capture port at why)
RunSays k d (ends.Limit kind) = StopsBy k d (faults.Limit kind)
RunSays k d _ = ⊥

abbrev pub run_meaning : RunNames → Meaning
run_meaning k = record {
  reads = k.config ∷ k.ins;
  writes = k.journal ∷ k.outs;
  end = run_ending k;
  Done = λ old new before after. IsTrue old.told → RunEnded k old new before after;
  Front = λ old new. SameFiles old new ⊎ HasFrontPart k old new;
  Forms = RunForms k;
  Says = RunSays k;
}
