-- The ticks up to a window and its frames come in time, from a state.
use Rattle.std.proofs.Common.{◌≡◌, ℕ, zero, suc, ◌+◌, ◌-◌, ◌≤◌, Bool, true, eqb, List, [], ◌∷◌, length, slice_get, Option, Some, None, IfSome, refl, sym, ap, ◌∙◌, subst, arith}
use Rattle.std.specs.Prelude.{if◌then◌else◌, unwrap_or}
use Rattle.std.proofs.lemmas.Bool.{eq-eqb}
use Rattle.fab_config.specs.Settings.{Settings}
use Rattle.window_records.specs.Laws.{AllIn}
use Rattle.fab_policy.specs.Growing.{with_more}
use Rattle.fab_policy.specs.Journal.{Journal, followed}
use Rattle.fab_policy.specs.Legal.{HasPorts, IsLeastOf, of_port, window_start, windows_left}
use Rattle.fab_policy.specs.Standing.{AreFrames}
use Rattle.fab_policy.specs.declared.event.Event.{Event}
use Rattle.fab_policy.specs.declared.event.Event.TheVariants.{Tick, Frame}
use Rattle.pcap_file.specs.declared.Record.{Record}
use Rattle.fab_policy.specs.Outputs.{State}
use Rattle.fab_policy.specs.Standing.{state_after}
use Rattle.fab_states.specs.States.{state_on}
use Rattle.fab_windows.specs.Window.{AreTicksBy, HoldBatches}
use Rattle.fab_windows.proofs.TimedLemmas.{AllAbove, above_each, above_numbered, left_tick, record_behind}
use Rattle.fab_states.specs.Runs.{TimedFrom, counts_on, first_of, record_from}
use Rattle.fab_policy.proofs.FollowedLemmas.{of_port-followed, ports-first}

-- ---- ticks

pub ticks_hold : (c : Settings) (w p : ℕ) (S : State) (J : Journal) (ticks : List Event) → AreTicksBy c w S ticks → of_port p (followed J ticks) ≡ of_port p J
ticks_hold c w p S J [] are = refl
ticks_hold c w p S J (Tick m ended ∷ ticks) are = ticks_hold c w p (state_after c S (Tick m ended)) (Tick m ended ∷ J) ticks are.1
ticks_hold c w p S J (Frame port index caught verdict ∷ ticks) are = absurd are

pub ticks_ports : (c : Settings) (w n : ℕ) (S : State) (J : Journal) (ticks : List Event) → AreTicksBy c w S ticks → HasPorts n J → HasPorts n (followed J ticks)
ticks_ports c w n S J [] are h = h
ticks_ports c w n S J (Tick m ended ∷ ticks) are h = ticks_ports c w n (state_after c S (Tick m ended)) (Tick m ended ∷ J) ticks are.1 h
ticks_ports c w n S J (Frame port index caught verdict ∷ ticks) are h = absurd are

pub timed_ticks : (c : Settings) (w : ℕ) (S : State) (firsts : List ℕ) (ins : List (List Record)) (J : Journal) (ticks : List Event) → IsLeastOf (windows_left c 1 ins J) w → AreTicksBy c w (state_on c S J) ticks
    → TimedFrom c S firsts ins J → TimedFrom c S firsts ins (followed J ticks) × ((state_on c S (followed J ticks)).tables.clock ≡ Some w)
timed_ticks c w S firsts ins J [] least are t = (t, are)
timed_ticks c w S firsts ins J (Tick m ended ∷ ticks) least are t =
    timed_ticks c w S firsts ins (Tick m ended ∷ J) ticks (subst (λ l. IsLeastOf l w) (sym (left_tick c m ended 1 ins J)) least) are.1 (t, (w, least, are.0))
timed_ticks c w S firsts ins J (Frame port index caught verdict ∷ ticks) least are t = absurd are

-- ---- frames

-- frames of a window
abbrev pub AreOf : Settings → ℕ → List ℕ → List (List Record) → List Event → Type 0
AreOf c w firsts ins [] = Unit {0}
AreOf c w firsts ins (Tick m ended ∷ frames) = ⊥
AreOf c w firsts ins (Frame port index caught verdict ∷ frames) = IfSome (record_from firsts ins port index) (λ r. window_start c r.moment ≡ w) × AreOf c w firsts ins frames

pub timed_frames : (c : Settings) (w : ℕ) (S : State) (firsts : List ℕ) (ins : List (List Record)) (J : Journal) (frames : List Event) → AreOf c w firsts ins frames → (state_on c S J).tables.clock ≡ Some w
    → TimedFrom c S firsts ins J → TimedFrom c S firsts ins (followed J frames)
timed_frames c w S firsts ins J [] own at t = t
timed_frames c w S firsts ins J (Tick m ended ∷ frames) own at t = absurd own
timed_frames c w S firsts ins J (Frame port index caught verdict ∷ frames) own at t =
    timed_frames c w S firsts ins (Frame port index caught verdict ∷ J) frames own.1 at (t, by_record (record_from firsts ins port index) own.0)
  where
    by_record : (o : Option Record) → IfSome o (λ r. window_start c r.moment ≡ w) → IfSome o (λ r. (state_on c S J).tables.clock ≡ Some (window_start c r.moment))
    by_record None h = tt
    by_record (Some r) h = at ∙ ap (λ (v : ℕ). Some v) (sym h)

-- the frames of each port come behind the records that were taken of it
abbrev pub AreBehind : List ℕ → List (List Record) → List Event → Type 0
AreBehind firsts taken frames =
    (q : ℕ) (records : List Record) → slice_get taken q ≡ Some records → AllAbove (unwrap_or (slice_get firsts q) 0 + length records) (of_port (q + 1) (followed [] frames))

pub held_behind : (p q : ℕ) (firsts : List ℕ) (taken batches : List (List Record)) (frames : List Event) (records : List Record) → length batches ≡ length taken → length firsts ≡ length taken
    → HoldBatches frames p (counts_on firsts taken) batches → slice_get taken q ≡ Some records → AllAbove (unwrap_or (slice_get firsts q) 0 + length records) (of_port (p + q) (followed [] frames))
held_behind p q firsts [] batches frames records e f held at = absurd (cc)
held_behind p q firsts (rs ∷ taken) [] frames records e f held at = absurd (omega arith)
held_behind p q [] (rs ∷ taken) (batch ∷ batches) frames records e f held at = absurd (omega arith)
held_behind p zero (first ∷ firsts) (rs ∷ taken) (batch ∷ batches) frames records e f held at =
    let same : rs ≡ records = cc in
    subst (λ (l : List Record). AllAbove (first + length l) (of_port (p + zero) (followed [] frames))) same
    (subst (AllAbove (first + length rs)) (sym held.0 ∙ ap (λ (n : ℕ). of_port n (followed [] frames)) (let f : p ≡ p + zero = omega arith in f)) (above_numbered (first + length rs) (first + length rs) batch (omega arith)))
held_behind p (suc q) (first ∷ firsts) (rs ∷ taken) (batch ∷ batches) frames records e f held at =
    subst (λ (n : ℕ). AllAbove (unwrap_or (slice_get firsts q) 0 + length records) (of_port n (followed [] frames))) (let f : p + 1 + q ≡ p + suc q = omega arith in f)
    (held_behind (p + 1) q firsts taken batches frames records (omega arith) (omega arith) held.1 at)

pub frames_of : (c : Settings) (w n : ℕ) (firsts : List ℕ) (taken batches : List (List Record)) (frames : List Event) → length batches ≡ length taken → AllIn c w batches → AreFrames frames
    → HasPorts n (followed [] frames) → AreBehind firsts taken frames → AreOf c w firsts (with_more taken batches) frames
frames_of c w n firsts taken batches [] e own are ports behind = tt
frames_of c w n firsts taken batches (Tick m ended ∷ frames) e own are ports behind = absurd are
frames_of c w n firsts taken batches (Frame port index caught verdict ∷ frames) e own are ports behind = (
  record_behind c w (port - 1) (index - first_of firsts port) taken batches e own first_behind,
  frames_of c w n firsts taken batches frames e own are each.0 (λ q records at. (apart q records at).1),
)
  where
    each : HasPorts n (followed [] frames) × HasPorts n (Frame port index caught verdict ∷ [])
    each = ports-first n (Frame port index caught verdict) frames ports

    apart : (q : ℕ) (records : List Record) → slice_get taken q ≡ Some records
        → AllAbove (unwrap_or (slice_get firsts q) 0 + length records) (if eqb port (q + 1) then (index, caught) ∷ [] else []) × AllAbove (unwrap_or (slice_get firsts q) 0 + length records) (of_port (q + 1) (followed [] frames))
    apart q records at =
        above_each (unwrap_or (slice_get firsts q) 0 + length records) (if eqb port (q + 1) then (index, caught) ∷ [] else []) (of_port (q + 1) (followed [] frames))
        (subst (AllAbove (unwrap_or (slice_get firsts q) 0 + length records)) (of_port-followed (q + 1) (Frame port index caught verdict ∷ []) frames) (behind q records at))

    first_behind : (records : List Record) → slice_get taken (port - 1) ≡ Some records → length records ≤ index - first_of firsts port
    first_behind records at =
        let some = each.1.1 in
        let own_port : eqb port (port - 1 + 1) ≡ true = eq-eqb port (port - 1 + 1) (omega arith) in
        let above = (subst (λ (b : Bool). AllAbove (first_of firsts port + length records) (if b then (index, caught) ∷ [] else [])) own_port (apart (port - 1) records at).0).0 in
        omega arith
