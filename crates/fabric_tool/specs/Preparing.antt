-- What `run` and `live` do before they open an output.
use Rattle.std.specs.Prelude.{◌≡◌, ℕ, ◌+◌, ◌*◌, IsTrue, List, [], ◌∷◌, length, Result, IfOk, IfErr}
use Rattle.fab_base.specs.Ending.{end_by, Uses}
use Rattle.fab_base.specs.Seen.{Seen, Nothing, Only}
use Rattle.fab_config.specs.Settings.{is_in_range}
use Rattle.pcap_file.specs.Capture.{HEAD}
use Rattle.fab_policy.specs.Outputs.{state_of}
use Rattle.fab_policy.specs.Standing.{Contents}
use Rattle.fabric_tool.specs.Command.{RunNames, LiveWords, Run, Live}
use Rattle.run_files.specs.Names.{Among}
use Rattle.fabric_tool.specs.Ends.{Holds}
use Rattle.fabric_tool.specs.Inputs.{HasConfig, MOST_BYTES, MOST_FRAMES}
use Rattle.fabric_tool.specs.Outcome.{outcome_end}
use Rattle.fabric_tool.specs.Reading.{AreHeads}
use Rattle.fabric_tool.specs.declared.outcome.Outcome.{Outcome}
use Rattle.fabric_tool.specs.declared.running.Prepared.{Prepared}

-- a fabric of so many ports to which nothing has happened
pub record IsNew (F : Contents) (ports : List (List ℕ)) : Type 0 where
  pub range : IsTrue (is_in_range F.settings)
  pub count : F.count ≡ length ports
  pub state : F.state ≡ state_of F.settings []
  pub nothing : (F.events ≡ []) × (F.outs ≡ [])

-- The configuration and the heads of all captures were read, and a fabric of that configuration was made, or the command ends so.
-- Whichever it is, these files were read, and nothing else was done.
pub record IsPrepared (k : RunNames) (old new : Seen) (result : Result Prepared Outcome) : Type 0 where
  pub uses : Uses (Among (k.config ∷ k.ins)) Nothing (end_by outcome_end result) old new
  pub fabric : IfOk result (λ p. IsNew p.fabric k.ins)
  pub config : IsTrue old.told → IfOk result (λ p. HasConfig old k.config p.fabric.settings)
  pub heads : IfOk result (λ p. AreHeads old new k.ins p.ins.items)
  pub left : IfOk result (λ p. (p.budget.bytes + HEAD * length k.ins ≡ MOST_BYTES) × (p.budget.frames ≡ MOST_FRAMES))
  pub ended : IfErr result (Holds (Run k) old new)

-- The configuration was read, and a fabric of it was made, or `live` ends so.
pub record IsLivePrepared (k : LiveWords) (old new : Seen) (result : Result Contents Outcome) : Type 0 where
  pub uses : Uses (Only k.config) Nothing (end_by outcome_end result) old new
  pub fabric : IfOk result (λ F. IsNew F k.outs)
  pub config : IsTrue old.told → IfOk result (λ F. HasConfig old k.config F.settings)
  pub ended : IfErr result (Holds (Live k) old new)
