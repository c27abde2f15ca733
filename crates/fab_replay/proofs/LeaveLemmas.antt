-- What a fabric stands for where the check of a journal ends.
use Rattle.std.proofs.Common.{◌≡◌, ℕ, ◌+◌, List, [], ◌∷◌, length, arith, Option, Some, None, IsTrue, Err, refl, sym, ap, ◌∙◌}
use Rattle.std.specs.Prelude.{filter, nat_lt}
use Rattle.fab_config.specs.Settings.{Settings}
use Rattle.fab_policy.specs.Journal.{Journal, followed}
use Rattle.fab_policy.specs.Legal.{numbered_from, window_start}
use Rattle.window_records.specs.Looks.{Stop}
use Rattle.fab_policy.specs.Standing.{Contents}
use Rattle.fab_policy.specs.declared.event.Event.{Event}
use Rattle.window_records.specs.Looks.{all_kept}
use Rattle.pcap_file.specs.declared.Budget.{Budget}
use Rattle.pcap_file.specs.declared.Record.{Record}
use Rattle.pcap_file.specs.Faults.{IsStopped}
use Rattle.pcap_file.specs.declared.fault.GatherFault.{GatherFault}
use Rattle.pcap_file.specs.declared.fault.GatherFault.TheVariants as gather_fault
use Rattle.fab_states.specs.Runs.{HoldsFrom}
use Rattle.fab_states.specs.States.{sent_on}
use Rattle.fab_replay.specs.Check.{Matter, Task, matter_of}
use Rattle.fab_replay.specs.CheckFrom.{HasAllFrom, HasKeptFrom}
use Rattle.fab_replay.specs.FrontFrom.{IsBehindFrom, Origin, now_from}
use Rattle.fab_replay.specs.Lines.{IsOfLine}
use Rattle.fab_replay.specs.Steps.{IsAlong, IsFound, Left, Scene}
use Rattle.fab_replay.specs.Windows.{LeftBy, check_fault, scene_of}
use Rattle.fab_replay.specs.declared.fault.CheckFault.{CheckFault}
use Rattle.fab_replay.specs.declared.fault.CheckFault.TheVariants as fault
use Rattle.fab_replay.specs.declared.lines.Place.{Place}
use Rattle.fab_replay.proofs.RemainLemmas.{stays, stays_refused}

-- a stop at a first look keeps nothing
pub holds_nothing : (c : Settings) (s : Stop) (p : ℕ) (firsts : List ℕ) (ins : List (List Record)) → length firsts ≡ length ins → s.window ≡ None → HoldsFrom [] p firsts (all_kept c s ins)
holds_nothing c s p [] [] same none = tt
holds_nothing c s p [] (records ∷ ins) same none = absurd (omega (arith, same))
holds_nothing c s p (first ∷ firsts) [] same none = absurd (omega (arith, same))
holds_nothing c s p (first ∷ firsts) (records ∷ ins) same none =
    (sym (ap (numbered_from first) (ap (λ (x : Option ℕ). elim x as (λ _. List Record) [ None ↦ [] | Some v ↦ filter (λ r. nat_lt (window_start c r.moment) v) records ]) none)), holds_nothing c s (p + 1) firsts ins (let e : length firsts ≡ length ins = omega (arith, same) in e) none)

-- a fault of a line needs no frames more
pub all_found : (c : Settings) (o : Origin) (budget : Budget) (m : Matter) (J : Journal) (x : Scene) (e : CheckFault) → IsFound x e → HasAllFrom c o budget m J (Err e)
all_found c o budget m J x (fault.Line n y) h = tt
all_found c o budget m J x fault.Read h = tt
all_found c o budget m J x fault.Memory h = tt
all_found c o budget m J x _ h = absurd h

-- a fault of a line
pub left_line : (k : Task) (F : Contents) (e : CheckFault) → IsOfLine e → Left (scene_of k) k.start.seen.told F e → LeftBy k F e
left_line k F (fault.Line n y) only h = record { remains = h; all = λ told. tt }
left_line k F fault.Memory only h = record { remains = h; all = λ told. tt }
left_line k F _ only h = absurd only

-- a fault of gathering
pub left_stopped : (k : Task) (J : Journal) (F : Contents) (p : Place) → IsAlong (scene_of k) k.start.seen.told J F p → (e : GatherFault) → (IsTrue k.start.seen.told → IsStopped e → HasKeptFrom k.settings k.from k.start.left (matter_of k) J) → LeftBy k F (check_fault e)
left_stopped k J F p h (gather_fault.Capture port at w) kept = record { remains = stays (scene_of k) k.start.seen.told J F p h (Err (fault.Capture port at w)) refl (λ told. tt); all = λ told. kept told tt }
left_stopped k J F p h (gather_fault.Limit kind) kept = record { remains = stays (scene_of k) k.start.seen.told J F p h (Err (fault.Limit kind)) refl (λ told. tt); all = λ told. kept told tt }
left_stopped k J F p h gather_fault.Read kept = record { remains = stays (scene_of k) k.start.seen.told J F p h (Err fault.Read) refl (λ told. tt); all = λ told. tt }
left_stopped k J F p h gather_fault.Memory kept = record { remains = stays_refused (scene_of k) k.start.seen.told J F p h; all = λ told. tt }

-- nothing happened yet
pub along_none : (k : Task) (F : Contents) (p : Place) → F.settings ≡ k.settings → F.state ≡ k.from.state → F.events ≡ [] → F.outs ≡ [] → IsBehindFrom (now_from k.from) k.bytes p [] → IsAlong (scene_of k) k.start.seen.told [] F p
along_none k F p settings state events outs behind = record {
  behind = behind;
  ranged = tt;
  legal = tt;
  stands = record { state = state; older = []; events = sym (ap (followed []) events); outs = outs ∙ sym (ap (λ (es : List Event). sent_on F.settings F.count k.from.state (followed [] es)) events) };
  settings = settings;
  begun = λ told. record { ports = tt; frames = λ q records at. refl; timed = tt };
}
