-- A run from the state before anything happened, with indexes from 0, is a run.
use Rattle.std.proofs.Common.{◌≡◌, ℕ, zero, suc, ◌+◌, ◌-◌, List, [], ◌∷◌, slice_get, Option, Some, IfSome, unwrap_or, refl, sym, ap, ◌∙◌, subst, arith}
use Rattle.std.proofs.lemmas.List.{append-nil}
use Rattle.fab_config.specs.Settings.{Settings}
use Rattle.pcap_file.specs.declared.Record.{Record}
use Rattle.fab_policy.specs.Journal.{Journal}
use Rattle.fab_policy.specs.Legal.{HoldsFrames, InTime, IsNextTickBy, IsRightEntry, Legal, Run, Timed, record_of, window_start}
use Rattle.fab_policy.specs.Outputs.{State, state_of}
use Rattle.fab_policy.specs.declared.event.Event.{Event}
use Rattle.fab_policy.specs.declared.event.Event.TheVariants.{Tick, Frame}
use Rattle.fab_states.specs.Runs.{HoldsFrom, InTimeFrom, RunFrom, TimedFrom, first_of, none_of, record_from}
use Rattle.fab_states.specs.States.{LegalFrom, state_on}
use Rattle.fab_states.proofs.OnLemmas.{state-behind}

pub state_nothing : (c : Settings) (K : Journal) → state_on c (state_of c []) K ≡ state_of c K
state_nothing c K = sym (state-behind c [] K) ∙ ap (state_of c) (append-nil K)

pub legal_nothing : (c : Settings) (K : Journal) → LegalFrom c (state_of c []) K → Legal c K
legal_nothing c [] l = tt
legal_nothing c (e ∷ K) l = (legal_nothing c K l.0, subst (λ (S : State). IsRightEntry c S.tables e) (state_nothing c K) l.1)

pub held_nothing : (K : Journal) (p : ℕ) (ins : List (List Record)) → HoldsFrom K p (none_of ins) ins → HoldsFrames K p ins
held_nothing K p [] h = tt
held_nothing K p (records ∷ ins) h = (h.0, held_nothing K (p + 1) ins h.1)

pub none_at : (k : ℕ) (ins : List (List Record)) → unwrap_or (slice_get (none_of ins) k) 0 ≡ 0
none_at k [] = refl
none_at zero (records ∷ ins) = refl
none_at (suc k) (records ∷ ins) = none_at k ins

record_nothing : (ins : List (List Record)) (port index : ℕ) → record_from (none_of ins) ins port index ≡ record_of ins port index
record_nothing ins port index = ap (record_of ins port) (let e = none_at (port - 1) ins in let s : index - first_of (none_of ins) port ≡ index = omega (arith, e) in s)

entry_nothing : (c : Settings) (ins : List (List Record)) (K : Journal) (e : Event) → InTimeFrom c (state_of c []) (none_of ins) ins K e → InTime c ins K e
entry_nothing c ins K (Tick m ended) h = (h.0, h.1, subst (λ (S : State). IsNextTickBy c S h.0 m) (state_nothing c K) h.2)
entry_nothing c ins K (Frame port index caught verdict) h =
    subst (λ (o : Option Record). IfSome o (λ r. (state_of c K).tables.clock ≡ Some (window_start c r.moment))) (record_nothing ins port index)
    (subst (λ (S : State). IfSome (record_from (none_of ins) ins port index) (λ r. S.tables.clock ≡ Some (window_start c r.moment))) (state_nothing c K) h)

pub timed_nothing : (c : Settings) (ins : List (List Record)) (K : Journal) → TimedFrom c (state_of c []) (none_of ins) ins K → Timed c ins K
timed_nothing c ins [] h = tt
timed_nothing c ins (e ∷ K) h = (timed_nothing c ins K h.0, entry_nothing c ins K e h.1)

pub run_nothing : (c : Settings) (ins : List (List Record)) (K : Journal) → RunFrom c (state_of c []) (none_of ins) ins K → Run c ins K
run_nothing c ins K run = record {
  ports = run.ports;
  frames = held_nothing K 1 ins run.frames;
  legal = legal_nothing c K run.legal;
  timed = timed_nothing c ins K run.timed;
}
