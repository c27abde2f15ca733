-- Records of the last window or of later ones change nothing of the time of what was run from a state before them.
use Rattle.std.proofs.Common.{◌≡◌, ℕ, zero, suc, ◌+◌, ◌-◌, ◌<◌, ◌≤◌, Bool, true, eqb, List, [], ◌∷◌, ◌++◌, length, length-append, slice_get, Some, IfSome, sym, ap, ◌∙◌, subst, arith, append_assoc, eq-eqb}
use Rattle.std.specs.Prelude.{if◌then◌else◌, unwrap_or}
use Rattle.std.proofs.lemmas.List.{append-nil}
use Rattle.fab_base.specs.declared.values.Caught.{Caught}
use Rattle.fab_config.specs.Settings.{Settings}
use Rattle.pcap_file.specs.declared.Record.{Record}
use Rattle.fab_policy.specs.Journal.{Journal}
use Rattle.fab_policy.specs.Legal.{window_start, of_port, numbered_from, HasPorts}
use Rattle.fab_policy.specs.declared.event.Event.{Event}
use Rattle.fab_policy.specs.declared.event.Event.TheVariants.{Tick, Frame}
use Rattle.fab_policy.specs.declared.verdict.Verdict.{Verdict}
use Rattle.fab_policy.specs.Growing.{with_more, AllFrom, AllBelow}
use Rattle.fab_policy.specs.Outputs.{State}
use Rattle.fab_policy.proofs.GrowLemmas.{Few, all_more, any_below, any_more, at_port, length-numbered, numbered_place}
use Rattle.fab_states.specs.States.{state_on}
use Rattle.fab_states.specs.Runs.{HoldsFrom, InTimeFrom, TimedFrom, first_of}
use Rattle.fab_states.specs.Laws.{TimedGrowsFrom}

-- ---- the frames of each port are a front of the records of a piece

abbrev pub InFrontFrom : Journal → ℕ → List ℕ → List (List Record) → Type 0
InFrontFrom K p firsts [] = Unit {0}
InFrontFrom K p [] (rs ∷ ins) = ⊥
InFrontFrom K p (first ∷ firsts) (rs ∷ ins) = ((rest : List (ℕ × Caught)) × (of_port p K ++ rest ≡ numbered_from first rs)) × InFrontFrom K (p + 1) firsts ins

pub all_in_front : (K : Journal) (p : ℕ) (firsts : List ℕ) (ins : List (List Record)) → HoldsFrom K p firsts ins → InFrontFrom K p firsts ins
all_in_front K p [] [] h = tt
all_in_front K p [] (rs ∷ ins) h = h
all_in_front K p (first ∷ firsts) [] h = tt
all_in_front K p (first ∷ firsts) (rs ∷ ins) h = (([], append-nil (of_port p K) ∙ h.0), all_in_front K (p + 1) firsts ins h.1)

pub front_before : (e : Event) (K : Journal) (p : ℕ) (firsts : List ℕ) (ins : List (List Record)) → InFrontFrom (e ∷ K) p firsts ins → InFrontFrom K p firsts ins
front_before e K p firsts [] h = tt
front_before e K p [] (rs ∷ ins) h = h
front_before (Tick m ended) K p (first ∷ firsts) (rs ∷ ins) h = (h.0, front_before (Tick m ended) K (p + 1) firsts ins h.1)
front_before (Frame port index caught verdict) K p (first ∷ firsts) (rs ∷ ins) h =
    let own = if eqb port p then (index, caught) ∷ [] else [] in
    ((own ++ h.0.0, sym (append_assoc (of_port p K) own h.0.0) ∙ h.0.1), front_before (Frame port index caught verdict) K (p + 1) firsts ins h.1)

few_of : (first : ℕ) (l rest : List (ℕ × Caught)) (rs : List Record) → l ++ rest ≡ numbered_from first rs → length l ≤ length rs
few_of first l rest rs e = let a = length-append l rest in let b = ap length e in let d = length-numbered first rs in omega arith

few_in_front : (J : Journal) (p : ℕ) (firsts : List ℕ) (ins : List (List Record)) → InFrontFrom J p firsts ins → Few J p ins
few_in_front J p firsts [] h = tt
few_in_front J p [] (rs ∷ ins) h = absurd h
few_in_front J p (first ∷ firsts) (rs ∷ ins) h = (few_of first (of_port p J) h.0.0 rs h.0.1, few_in_front J (p + 1) firsts ins h.1)

-- ---- the record of an entry

frame_of : (index : ℕ) (caught : Caught) (verdict : Verdict) (J : Journal) (port p k : ℕ) (firsts : List ℕ) (ins : List (List Record)) (rs : List Record) → port ≡ p + k → slice_get ins k ≡ Some rs
    → InFrontFrom (Frame port index caught verdict ∷ J) p firsts ins → index - unwrap_or (slice_get firsts k) 0 < length rs
frame_of index caught verdict J port p k firsts [] rs e at h = absurd (cc)
frame_of index caught verdict J port p k [] (qs ∷ ins) rs e at h = absurd h
frame_of index caught verdict J port p zero (first ∷ firsts) (qs ∷ ins) rs e at h =
    let same : qs ≡ rs = cc in
    let own : eqb port p ≡ true = eq-eqb port p (omega arith) in
    let front = ap (λ (b : Bool). (of_port p J ++ (if b then (index, caught) ∷ [] else [])) ++ h.0.0) (sym own) ∙ h.0.1 in
    let place = numbered_place first qs (of_port p J) h.0.0 index caught front in
    subst (λ (l : List Record). index - first < length l) same (let i = place.0 in let l = place.1 in omega arith)
frame_of index caught verdict J port p (suc k) (first ∷ firsts) (qs ∷ ins) rs e at h = frame_of index caught verdict J port (p + 1) k firsts ins rs (omega arith) at h.1

-- ---- all entries

entry_more : (c : Settings) (S : State) (w : ℕ) (firsts : List ℕ) (ins more : List (List Record)) (e : Event) (J : Journal) → HasPorts (length ins) (e ∷ J) → InFrontFrom (e ∷ J) 1 firsts ins → InTimeFrom c S firsts ins J e
    → AllBelow c (w + 1) ins → AllFrom c w more → length more ≡ length ins → InTimeFrom c S firsts (with_more ins more) J e
entry_more c S w firsts ins more (Tick m ended) J ports front t below from count =
    let few = few_in_front J 1 firsts ins (front_before (Tick m ended) J 1 firsts ins front) in
    let lt : t.0 ≤ w = let b = any_below c w t.0 J 1 ins below t.1.0 in omega arith in
    (t.0, (any_more c w t.0 J 1 ins more count few t.1.0, all_more c w t.0 J 1 ins more lt count few from t.1.1), t.2)
entry_more c S w firsts ins more (Frame port index caught verdict) J ports front t below from count =
    let some = ports.1 in
    let most = ports.2 in
    let place : port ≡ 1 + (port - 1) = omega arith in
    subst (λ o. IfSome o (λ r. (state_on c S J).tables.clock ≡ Some (window_start c r.moment)))
    (sym (at_port (port - 1) (index - first_of firsts port) ins more count (omega arith) (λ rs at. frame_of index caught verdict J port 1 (port - 1) firsts ins rs place at front))) t

time_more : (c : Settings) (S : State) (w : ℕ) (firsts : List ℕ) (ins more : List (List Record)) (J : Journal) → HasPorts (length ins) J → InFrontFrom J 1 firsts ins → TimedFrom c S firsts ins J
    → AllBelow c (w + 1) ins → AllFrom c w more → length more ≡ length ins → TimedFrom c S firsts (with_more ins more) J
time_more c S w firsts ins more [] ports front t below from count = tt
time_more c S w firsts ins more (Tick m ended ∷ J) ports front t below from count =
    (time_more c S w firsts ins more J ports (front_before (Tick m ended) J 1 firsts ins front) t.0 below from count, entry_more c S w firsts ins more (Tick m ended) J ports front t.1 below from count)
time_more c S w firsts ins more (Frame port index caught verdict ∷ J) ports front t below from count =
    (time_more c S w firsts ins more J ports.0 (front_before (Frame port index caught verdict) J 1 firsts ins front) t.0 below from count, entry_more c S w firsts ins more (Frame port index caught verdict) J ports front t.1 below from count)

pub timed_grows_from : TimedGrowsFrom
timed_grows_from c S w firsts ins more J ports holds t below from count = time_more c S w firsts ins more J ports (all_in_front J 1 firsts ins holds) t below from count
