-- What carrying out a verdict does to a roll. No public clause cites this module.
use Rattle.std.specs.Prelude.{◌≡◌, ℕ, ◌+◌, ◌*◌, ◌&&◌, not, Bool, List, filter}
use Rattle.fab_base.specs.Fabric.{same_enode}
use Rattle.fab_config.specs.Settings.{Settings}
use Rattle.fab_judge.specs.declared.judging.Judged.{Judged}
use Rattle.fab_policy.specs.Free.{Request}
use Rattle.heard_frames.specs.Heard.{asked}
use Rattle.fab_policy.specs.State.{LivePort, Tables}
use Rattle.fab_policy.specs.Steps.{after}
use Rattle.fab_policy.specs.declared.verdict.Verdict.{Verdict}
use Rattle.fab_roster.specs.Changes.{IsSoundRoll, KeepsBounds}
use Rattle.fab_roster.specs.Roll.{Roll}
use Rattle.fab_sending.specs.Sends.{CanFollow, request_from}
use Rattle.forward_core.specs.Arrived.{caught_of, entry_of}
use Rattle.forward_core.specs.Turns.{IsJudged}
use Rattle.forward_core.specs.declared.arrived.Arrived.{Arrived}

-- the roll was made for this configuration
pub record IsRollOf (c : Settings) (r : Roll) : Type 0 where
  pub lowest : r.lowest ≡ c.domain * 65536 + 256
  pub count : r.count ≡ c.pool

-- A frame is judged so over these tables, by some configuration.
abbrev pub WasJudged : Tables → Arrived → Judged → Verdict → Type 0
WasJudged T frame j v = (c : Settings) × IsJudged c T frame j v

-- A frame got this verdict: the roll keeps its bounds and the clock, it has the tables after that entry, and what is told of
-- them can follow.
pub record CarriesOut (frame : Arrived) (v : Verdict) (old new : Roll) : Type 0 where
  pub bounds : KeepsBounds old new
  pub sound : IsSoundRoll new
  pub clock : new.tables.clock ≡ old.tables.clock
  pub tables : (c : Settings) → IsRollOf c old → new.tables ≡ after c old.tables (entry_of frame v)
  pub follows : (c : Settings) → IsRollOf c old → CanFollow c old.tables frame.port frame.index (caught_of frame) v

-- ---- grants

-- the N_Ports that a login request ends
abbrev pub is_ended : Request → LivePort → Bool
is_ended r p = r.flogi && same_enode p.enode r.enode

-- the N_Ports that it leaves
abbrev pub left_to : Request → Tables → List LivePort
left_to r T = filter (λ p. not (is_ended r p)) T.ports

-- A frame is this login request, with this node name.
pub record Asks (frame : Arrived) (r : Request) (node : ℕ) : Type 0 where
  pub request : r ≡ request_from frame.port (caught_of frame)
  pub node_is : node ≡ (asked (caught_of frame)).node_name
