-- Tables changed by a frame that grants nothing are those of the policy.
use Rattle.std.proofs.Common.{◌≡◌, ℕ, ◌==◌, Bool, true, false, cond, List, [], ◌∷◌, Some, sym, ◌∙◌, subst, IfSome}
use Rattle.std.specs.List.{All}
use Rattle.std.proofs.lemmas.List.Elements.{All-head, All-tail}
use Rattle.fab_config.specs.Settings.{Settings}
use Rattle.fab_policy.specs.Changes.{CanStay, FrameSteps, leaves_logins, stays_as}
use Rattle.heard_frames.specs.Heard.{s_id}
use Rattle.fab_policy.specs.State.{LivePort, Tables, now_of, port_at}
use Rattle.fab_policy.specs.declared.verdict.Verdict.{Verdict}
use Rattle.fab_policy.specs.declared.verdict.Verdict.TheVariants.{Granted, Registered}
use Rattle.fab_roster.specs.Changes.{ChangesPorts, IsSoundRoll, KeepsBounds}
use Rattle.fab_roster.specs.Roll.{Roll}
use Rattle.fab_sending.specs.Sends.{CanFollow}
use Rattle.forward_core.specs.Arrived.{caught_of}
use Rattle.forward_core.specs.Carrying.{CarriesOut, IsRollOf}
use Rattle.forward_core.specs.declared.arrived.Arrived.{Arrived}
use Rattle.forward_core.proofs.TickLemmas.{in_pool}

-- a roll with the same bounds as one that was made for a configuration
pub same_roll : (c : Settings) (old new : Roll) → KeepsBounds old new → IsRollOf c old → IsRollOf c new
same_roll c old new bounds of = record { lowest = bounds.lowest ∙ of.lowest; count = bounds.count ∙ of.count }

-- what is told can follow where nobody logs in
stay_follows : (c : Settings) (T : Tables) (frame : Arrived) (v : Verdict) → leaves_logins v ≡ true → ((a : ℕ) (p : LivePort) → port_at a T.ports ≡ Some p → CanStay (caught_of frame) v p) →
    CanFollow c T frame.port frame.index (caught_of frame) v
stay_follows c T frame (Granted a) leaves can = cc
stay_follows c T frame Registered leaves can = can (s_id (caught_of frame))
stay_follows c T frame _ leaves can = tt

-- each N_Port stays as the verdict says
pub stayed : FrameSteps → (frame : Arrived) (v : Verdict) (old new : Roll) → leaves_logins v ≡ true → ((a : ℕ) (p : LivePort) → port_at a old.tables.ports ≡ Some p → CanStay (caught_of frame) v p) →
    ChangesPorts (stays_as (now_of old.tables) frame.port (caught_of frame) v) old new → IsSoundRoll new → CarriesOut frame v old new
stayed steps frame v old new leaves can change sound = record {
  bounds = change.bounds;
  sound = sound;
  clock = change.clock;
  tables = λ c of. let is = same_roll c old new change.bounds of in
      steps c frame.port frame.index (caught_of frame) v old.tables new.tables leaves can change.clock (in_pool c new is.lowest is.count sound) change.ports change.past;
  follows = λ c of. stay_follows c old.tables frame v leaves can;
}

-- a verdict that is this one, by what it does to each N_Port
pub changed : FrameSteps → (frame : Arrived) (v w : Verdict) (old new : Roll) → v ≡ w → leaves_logins w ≡ true → ((a : ℕ) (p : LivePort) → port_at a old.tables.ports ≡ Some p → CanStay (caught_of frame) w p) →
    (f : LivePort → LivePort) → f ≡ stays_as (now_of old.tables) frame.port (caught_of frame) w → ChangesPorts f old new → IsSoundRoll new → CarriesOut frame v old new
changed steps frame v w old new same leaves can f is change sound =
    subst (λ u. CarriesOut frame u old new) (sym same) (stayed steps frame w old new leaves can (subst (λ g. ChangesPorts g old new) is change) sound)

-- what holds of each N_Port holds of one that is found
pub found_one : (P : LivePort → Type 0) (a : ℕ) (ports : List LivePort) → All P ports → IfSome (port_at a ports) P
found_one P a [] all = tt
found_one P a (q ∷ ports) all = go (q.address == a) (found_one P a ports (All-tail P q ports all))
  where
    go : (b : Bool) → IfSome (port_at a ports) P → IfSome (cond b (Some q) (port_at a ports)) P
    go true later = All-head P q ports all
    go false later = later
