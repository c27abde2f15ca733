-- In a run no voice and no end of a login is later than the clock.
use Rattle.std.proofs.Common.{◌≡◌, ℕ, ◌+◌, ◌*◌, ◌≤◌, inl, inr, Bool, true, false, List, [], ◌∷◌, Option, Some, None, IfSome, refl, sym, ap, subst, ◌∙◌, arith, unwrap_or, if◌then◌else◌}
use Rattle.fab_base.specs.Fabric.{Past, past_at}
use Rattle.fab_base.specs.declared.values.Enode.{Enode}
use Rattle.fab_config.specs.Settings.{Settings}
use Rattle.pcap_file.specs.declared.Record.{Record}
use Rattle.fab_policy.specs.Journal.{Journal, moment_of}
use Rattle.fab_policy.specs.Logins.{ends, grants, hears_node, hears_port}
use Rattle.fab_policy.specs.Outputs.{State, state_of}
use Rattle.fab_policy.specs.State.{LivePort, Tables, now_of}
use Rattle.fab_policy.specs.Steps.{after, past_after}
use Rattle.fab_policy.specs.declared.event.Event.{Event}
use Rattle.fab_policy.specs.declared.event.Event.TheVariants.{Tick, Frame}
use Rattle.fab_states.specs.Runs.{TimedFrom, none_of}
use Rattle.fab_states.specs.States.{state_on}
use Rattle.fab_pieces.specs.Sound.{EntriesKeepTimely, IsTimely, RunsAreTimely, RunsKeepTimely}
use Rattle.fab_policy.proofs.After.{Came, live_after}
use Rattle.fab_pieces.proofs.JoinLemmas.{states_are_on}
use Rattle.fab_policy.proofs.PortLists.{as_much, no_some}
use Rattle.fab_pieces.proofs.PastLemmas.{ended, granted, holder, kept, left_alone, past_is, past_none}
use Rattle.fab_pieces.proofs.RunLemmas.{runs_are_from, tick_later}
use Rattle.fab_pieces.proofs.SoundLemmas.{first_unused, nobody_first}
use Rattle.fab_policy.proofs.SoundTables.{clock_at}

later : (T : Tables) (e : Event) → IfSome (moment_of e) (λ m. now_of T ≤ m) → now_of T ≤ clock_at T e
later T (Tick m ended) h = h
later T (Frame port index caught verdict) h = as_much (now_of T)

up_to : (x t u : ℕ) → x ≤ t → t ≤ u → x ≤ u
up_to x t u h k = omega (arith, h, k)

heard_or_old : (b : Bool) (at old t : ℕ) → old ≤ t → t ≤ at → (if b then at else old) ≤ at
heard_or_old true at old t h k = as_much at
heard_or_old false at old t h k = up_to old t at h k

came_heard : (c : Settings) (T : Tables) (e : Event) → IsTimely T → now_of T ≤ clock_at T e → (a : ℕ) (p : LivePort) → Came c T e a p → (p.node_heard ≤ clock_at T e) × (p.port_heard ≤ clock_at T e)
came_heard c T e timely le a p (inl f) = subst (λ (q : LivePort). (q.node_heard ≤ clock_at T e) × (q.port_heard ≤ clock_at T e)) f.1 (as_much (clock_at T e), as_much (clock_at T e))
came_heard c T e timely le a p (inr s) =
    let was = timely.heard a s.0 s.1 in
    subst (λ (q : LivePort). (q.node_heard ≤ clock_at T e) × (q.port_heard ≤ clock_at T e)) s.4
    (heard_or_old (hears_node s.0.enode e) (clock_at T e) s.0.node_heard (now_of T) was.0 le, heard_or_old (hears_port a e) (clock_at T e) s.0.port_heard (now_of T) was.1 le)

abbrev EndsBy : ℕ → Past → Type 0
EndsBy t q = IfSome q.ended (λ x. x ≤ t)

still : (q : Past) (t u : ℕ) → EndsBy t q → t ≤ u → EndsBy u q
still q t u h k = by (q.ended) h
  where
    by : (o : Option ℕ) → IfSome o (λ x. x ≤ t) → IfSome o (λ x. x ≤ u)
    by None h = tt
    by (Some x) h = up_to x t u h k

ends_by : (T : Tables) (e : Event) (a : ℕ) (o : Option Enode) (q : Past) → EndsBy (clock_at T e) q → (g : Bool) → grants a e ≡ g → EndsBy (clock_at T e) (past_after (clock_at T e) a e o q)
ends_by T e a o q h true g = subst (EndsBy (clock_at T e)) (sym (granted (clock_at T e) a e o q g)) tt
ends_by T e a None q h false g = subst (EndsBy (clock_at T e)) (sym (left_alone (clock_at T e) a e q g)) h
ends_by T e a (Some x) q h false g = by (ends a x e) refl
  where
    by : (b : Bool) → ends a x e ≡ b → EndsBy (clock_at T e) (past_after (clock_at T e) a e (Some x) q)
    by true y = subst (EndsBy (clock_at T e)) (sym (ended (clock_at T e) a e x q g y)) (as_much (clock_at T e))
    by false y = subst (EndsBy (clock_at T e)) (sym (kept (clock_at T e) a e x q g y)) h

past_timely : (c : Settings) (T : Tables) (e : Event) → IsTimely T → now_of T ≤ clock_at T e → (a : ℕ) (q : Past) → past_at a (after c T e).past ≡ Some q → EndsBy (clock_at T e) q
past_timely c T e timely le a q is = by (past_at a T.past) refl
  where
    by : (o : Option Past) → past_at a T.past ≡ o → EndsBy (clock_at T e) q
    by None was = no_some q (sym (past_none c T e a was) ∙ is)
    by (Some old) was =
        subst (EndsBy (clock_at T e)) (ap (λ (o : Option Past). unwrap_or o q) (sym (past_is c T e a old was) ∙ is))
        (ends_by T e a (holder T a) old (still old (now_of T) (clock_at T e) (timely.ended a old was) le) (grants a e) refl)

pub entries_keep_timely : EntriesKeepTimely
entries_keep_timely c T e timely on =
    let le = later T e on in
    record { heard = λ a p x. came_heard c T e timely le a p (live_after c T e a p x).3; ended = past_timely c T e timely le }

timed_keep : (c : Settings) (S : State) (firsts : List ℕ) (ins : List (List Record)) (K : Journal) → IsTimely S.tables → TimedFrom c S firsts ins K → IsTimely (state_on c S K).tables
timed_keep c S firsts ins [] timely t = timely
timed_keep c S firsts ins (Tick m ended ∷ K) timely t =
    entries_keep_timely c (state_on c S K).tables (Tick m ended) (timed_keep c S firsts ins K timely t.0) (tick_later c (state_on c S K) t.1.0 m t.1.2)
timed_keep c S firsts ins (Frame port index caught verdict ∷ K) timely t =
    entries_keep_timely c (state_on c S K).tables (Frame port index caught verdict) (timed_keep c S firsts ins K timely t.0) tt

pub runs_keep_timely : RunsKeepTimely
runs_keep_timely c S firsts ins K timely run = timed_keep c S firsts ins K timely run.timed

never_ended : (q : Past) → ((q.name ≡ None) × (q.ended ≡ None)) → EndsBy 0 q
never_ended q h = subst (λ o. IfSome o (λ x. x ≤ 0)) (sym h.1) tt

pub first_timely : (c : Settings) → IsTimely (state_of c []).tables
first_timely c = record { heard = λ a p x. absurd (nobody_first c a p x); ended = λ a q is. never_ended q (first_unused c.pool (c.domain * 65536 + 256) a q is) }

pub runs_are_timely : RunsAreTimely
runs_are_timely c ins J run =
    subst (λ S. IsTimely S.tables) (sym (states_are_on c J)) (runs_keep_timely c (state_of c []) (none_of ins) ins J (first_timely c) (runs_are_from c ins J run))
