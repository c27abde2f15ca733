-- The N_Port whose frame has a verdict of the services or of a login.
use Rattle.std.proofs.Common.{◌≡◌, ℕ, Bool, List, Option, Some, None, IsSome, IfSome, refl, sym, ap, ◌∙◌, subst}
use Rattle.std.specs.List.{All}
use Rattle.fab_base.specs.declared.values.Caught.{Caught}
use Rattle.fab_base.specs.declared.values.Enode.{Enode}
use Rattle.fab_config.specs.Settings.{Settings}
use Rattle.ct_messages.specs.Ct.{Ask}
use Rattle.ct_messages.specs.declared.CtTell.{CtTell}
use Rattle.fab_judge.specs.Judged.{GrantRests}
use Rattle.fab_judge.specs.declared.judging.Candidate.{Candidate}
use Rattle.fab_policy.specs.Free.{Request}
use Rattle.heard_frames.specs.Heard.{carried, is_flogi, sender}
use Rattle.fab_policy.specs.Outputs.{State}
use Rattle.fab_policy.specs.Queries.{query}
use Rattle.fab_policy.specs.State.{LivePort, Tables, port_at}
use Rattle.fab_roster.specs.Changes.{IsSize}
use Rattle.fab_sending.specs.Sends.{IsGrant, state_before}
use Rattle.fab_sending.specs.declared.sends.Before.{Before}
use Rattle.fab_sending.specs.declared.sends.Grant.{Grant}
use Rattle.forward_core.specs.Arrived.{caught_of}
use Rattle.forward_core.specs.Carrying.{Asks}
use Rattle.forward_core.specs.declared.arrived.Arrived.{Arrived}
use Rattle.forward_core.proofs.CarryLemmas.{found_one}

-- a login that may be granted is what the frame asks for
pub asks : (c : Settings) (T : Tables) (frame : Arrived) (login : Candidate) → GrantRests c T (sender frame.port (caught_of frame)) (is_flogi (caught_of frame)) (carried (caught_of frame)) login →
    Asks frame login.request login.node
asks c T frame login rests = record { request = request_is login.request _ _ _ rests.flogi_is rests.enode rests.name; node_is = rests.node_is }
  where
    made : Bool → Enode → ℕ → Request
    made a b d = record { flogi = a; enode = b; name = d }

    request_is : (r : Request) (flogi : Bool) (x : Enode) (name : ℕ) → r.flogi ≡ flogi → r.enode ≡ x → r.name ≡ name → r ≡ record { flogi = flogi; enode = x; name = name }
    request_is r flogi x name e f g = ap (λ y. made y r.enode r.name) e ∙ (ap (λ y. made flogi y r.name) f ∙ ap (λ y. made flogi x y) g)

-- a grant by the tables of a state before an entry
pub grant_before : (b : Before) (S : State) (port : ℕ) (caught : Caught) (g : Grant) → state_before b ≡ S → IsGrant S.tables port caught g → IsGrant b.roster.now.tables port caught g
grant_before b S port caught g is grant = subst (λ (x : State). IsGrant x.tables port caught g) (sym is) grant

-- the N_Port of an address by the tables of a state before an entry
pub found_before : (b : Before) (S : State) (a d : ℕ) (p : LivePort) → state_before b ≡ S → a ≡ d → port_at a b.roster.now.tables.ports ≡ Some p → port_at d S.tables.ports ≡ Some p
found_before b S a d p is same at = subst (λ x. port_at x S.tables.ports ≡ Some p) same (subst (λ (x : State). port_at a x.tables.ports ≡ Some p) is at)

pub live_before : (b : Before) (S : State) (a d : ℕ) → state_before b ≡ S → a ≡ d → IsSome (port_at d S.tables.ports) → IsSome (port_at a b.roster.now.tables.ports)
live_before b S a d is same live = subst (λ (x : State). IsSome (port_at a x.tables.ports)) (sym is) (subst (λ x. IsSome (port_at x S.tables.ports)) (sym same) live)

-- the answer to a query by the tables of a state before an entry
pub told_before : (b : Before) (S : State) (c : Settings) (p : LivePort) (ask : Ask) (tell : CtTell) → b.config.now ≡ c → state_before b ≡ S → tell ≡ query c S.tables p ask → tell ≡ query b.config.now b.roster.now.tables p ask
told_before b S c p ask tell same is told = told ∙ sym (ap (λ x. query x S.tables p ask) same) ∙ sym (ap (λ (x : State). query b.config.now x.tables p ask) is)

-- the receive size of a live N_Port is one
pub size_fits : (a : ℕ) (ports : List LivePort) (size : ℕ) → All (λ p. IfSome p.server IsSize) ports → IsSome (port_at a ports) → ((b : LivePort) → port_at a ports ≡ Some b → b.server ≡ Some size) → IsSize size
size_fits a ports size all live is = go (port_at a ports) refl live (found_one (λ p. IfSome p.server IsSize) a ports all)
  where
    go : (o : Option LivePort) → port_at a ports ≡ o → IsSome o → IfSome o (λ p. IfSome p.server IsSize) → IsSize size
    go None e h fits = cc
    go (Some b) e h fits = subst (λ o. IfSome o IsSize) (is b e) fits
