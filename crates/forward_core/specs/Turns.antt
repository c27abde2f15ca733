-- How the parts of a turn change a fabric. No public clause cites this module.
use Rattle.std.specs.Prelude.{◌≡◌, [], ◌∷◌, ◌++◌, length, map, Result, OnOk, OnErr, IsSome}
use Rattle.fab_base.specs.declared.values.NoMemory.{NoMemory}
use Rattle.fab_config.specs.Settings.{Settings}
use Rattle.fab_judge.specs.Judged.{Grounds, HasValues}
use Rattle.fab_judge.specs.declared.judging.Judged.{Judged}
use Rattle.fab_policy.specs.Standing.{Contents, Takes}
use Rattle.fab_policy.specs.State.{Tables}
use Rattle.fab_policy.specs.Verdicts.{IsRight}
use Rattle.fab_policy.specs.declared.event.Event.{Event}
use Rattle.fab_policy.specs.declared.verdict.Verdict.{Verdict}
use Rattle.fab_sending.specs.Message.{sent_of}
use Rattle.fab_sending.specs.Sends.{FrameSends, state_before}
use Rattle.fab_sending.specs.declared.sends.Before.{Before}
use Rattle.fab_sending.specs.declared.sends.Sends.{Sends}
use Rattle.forward_core.specs.Arrived.{caught_of, entry_of}
use Rattle.forward_core.specs.declared.arrived.Arrived.{Arrived}

-- A frame is judged so over these tables, whose clock runs: the verdict is right, what it rests on holds, and its values are
-- those of the frame.
pub record IsJudged (c : Settings) (T : Tables) (frame : Arrived) (j : Judged) (v : Verdict) : Type 0 where
  pub clock : IsSome T.clock
  pub right : IsRight c T frame.port (caught_of frame) v
  pub rests : Grounds c T frame.port (caught_of frame) j
  pub values : HasValues frame.port (caught_of frame) j

-- what is known before an entry is what the fabric holds
pub record IsBefore (b : Before) (F : Contents) : Type 0 where
  pub config : b.config.now ≡ F.settings
  pub ports : b.ports ≡ F.count
  pub state : state_before b ≡ F.state

-- A frame with this verdict sends these frames, by what the fabric holds before its entry.
pub record IsSent (F : Contents) (frame : Arrived) (v : Verdict) (s : Sends) : Type 0 where
  pub before : Before
  pub is : IsBefore before F
  pub sends : FrameSends before frame.port (length F.events) (caught_of frame) v s

-- An entry and what it sends are put behind those since the last drain, and state changes are counted on.
pub record Keeps (F : Contents) (e : Event) (s : Sends) (G : Contents) : Type 0 where
  pub settings : G.settings ≡ F.settings
  pub count : G.count ≡ F.count
  pub tables : G.state.tables ≡ F.state.tables
  pub advertised : G.state.advertised ≡ F.state.advertised
  pub rscns : G.state.rscns ≡ s.rscns
  pub events : G.events ≡ F.events ++ e ∷ []
  pub outs : G.outs ≡ F.outs ++ map (sent_of F.settings (F.events ++ e ∷ [])) s.outs

-- The entry of a frame with this verdict is kept, with what it sends.
pub record KeepsFrame (F : Contents) (frame : Arrived) (v : Verdict) (G : Contents) : Type 0 where
  pub sends : Sends
  pub made : IsSent F frame v sends
  pub keeps : Keeps F (entry_of frame v) sends G

-- A turn: the fabric takes the entry of the frame, or after want of memory nothing has changed.
pub record TakesOrStays (F : Contents) (frame : Arrived) (v : Verdict) (result : Result (Unit {0}) NoMemory) (G : Contents) : Type 0 where
  pub takes : OnOk result (Takes F (entry_of frame v) G)
  pub err : OnErr result (G ≡ F)
