-- The ticks up to a window and its frames come in time.
use Rattle.std.proofs.Common.{◌≡◌, ℕ, zero, suc, ◌+◌, ◌-◌, ◌≤◌, Bool, true, eqb, List, [], ◌∷◌, ◌++◌, length, map, slice_get, Option, Some, None, IfSome, refl, sym, ap, ◌∙◌, subst, arith}
use Rattle.std.specs.Prelude.{if◌then◌else◌, option_and_then}
use Rattle.std.proofs.lemmas.Bool.{eq-eqb}
use Rattle.fab_base.specs.declared.values.Caught.{Caught}
use Rattle.fab_config.specs.Settings.{Settings}
use Rattle.window_records.specs.Laws.{AllIn}
use Rattle.window_records.specs.Port.{AreIn}
use Rattle.fab_policy.specs.Growing.{with_more}
use Rattle.fab_policy.specs.Journal.{Journal, clock, followed}
use Rattle.fab_policy.specs.Legal.{Timed, HasPorts, IsLeastOf, left_of, numbered_from, of_port, record_of, window_start, windows_left}
use Rattle.fab_policy.specs.Standing.{AreFrames}
use Rattle.fab_policy.specs.declared.event.Event.{Event}
use Rattle.fab_policy.specs.declared.event.Event.TheVariants.{Tick, Frame}
use Rattle.pcap_file.specs.declared.Record.{Record}
use Rattle.fab_windows.specs.Window.{AreTicksTo, HoldBatches}
use Rattle.fab_policy.proofs.FollowedLemmas.{of_port-followed, ports-first}

-- ---- ticks

pub left_tick : (c : Settings) (m : ℕ) (ended : List ℕ) (p : ℕ) (ins : List (List Record)) (J : Journal) → windows_left c p ins (Tick m ended ∷ J) ≡ windows_left c p ins J
left_tick c m ended p [] J = refl
left_tick c m ended p (records ∷ ins) J = ap (λ l. map (λ (r : Record). window_start c r.moment) (left_of p records J) ++ l) (left_tick c m ended (p + 1) ins J)

pub ticks_hold : (c : Settings) (w p : ℕ) (J : Journal) (ticks : List Event) → AreTicksTo c w J ticks → of_port p (followed J ticks) ≡ of_port p J
ticks_hold c w p J [] are = refl
ticks_hold c w p J (Tick m ended ∷ ticks) are = ticks_hold c w p (Tick m ended ∷ J) ticks are.1
ticks_hold c w p J (Frame port index caught verdict ∷ ticks) are = absurd are

pub ticks_ports : (c : Settings) (w n : ℕ) (J : Journal) (ticks : List Event) → AreTicksTo c w J ticks → HasPorts n J → HasPorts n (followed J ticks)
ticks_ports c w n J [] are h = h
ticks_ports c w n J (Tick m ended ∷ ticks) are h = ticks_ports c w n (Tick m ended ∷ J) ticks are.1 h
ticks_ports c w n J (Frame port index caught verdict ∷ ticks) are h = absurd are

pub timed_ticks : (c : Settings) (w : ℕ) (ins : List (List Record)) (J : Journal) (ticks : List Event) → IsLeastOf (windows_left c 1 ins J) w → AreTicksTo c w J ticks → Timed c ins J → Timed c ins (followed J ticks) × (clock (followed J ticks) ≡ Some w)
timed_ticks c w ins J [] least are t = (t, are)
timed_ticks c w ins J (Tick m ended ∷ ticks) least are t =
    timed_ticks c w ins (Tick m ended ∷ J) ticks (subst (λ l. IsLeastOf l w) (sym (left_tick c m ended 1 ins J)) least) are.1 (t, (w, least, are.0))
timed_ticks c w ins J (Frame port index caught verdict ∷ ticks) least are t = absurd are

-- ---- frames

-- frames of a window
abbrev pub AreOf : Settings → ℕ → List (List Record) → List Event → Type 0
AreOf c w ins [] = Unit {0}
AreOf c w ins (Tick m ended ∷ frames) = ⊥
AreOf c w ins (Frame port index caught verdict ∷ frames) = IfSome (record_of ins port index) (λ r. window_start c r.moment ≡ w) × AreOf c w ins frames

pub timed_frames : (c : Settings) (w : ℕ) (ins : List (List Record)) (J : Journal) (frames : List Event) → AreOf c w ins frames → clock J ≡ Some w → Timed c ins J → Timed c ins (followed J frames)
timed_frames c w ins J [] own at t = t
timed_frames c w ins J (Tick m ended ∷ frames) own at t = absurd own
timed_frames c w ins J (Frame port index caught verdict ∷ frames) own at t =
    timed_frames c w ins (Frame port index caught verdict ∷ J) frames own.1 at (t, by_record (record_of ins port index) own.0)
  where
    by_record : (o : Option Record) → IfSome o (λ r. window_start c r.moment ≡ w) → IfSome o (λ r. clock J ≡ Some (window_start c r.moment))
    by_record None h = tt
    by_record (Some r) h = at ∙ ap (λ (v : ℕ). Some v) (sym h)

-- numbers that aren't below one
abbrev pub AllAbove : ℕ → List (ℕ × Caught) → Type 0
AllAbove n [] = Unit {0}
AllAbove n (x ∷ l) = (n ≤ x.0) × AllAbove n l

pub above_numbered : (n k : ℕ) (records : List Record) → n ≤ k → AllAbove n (numbered_from k records)
above_numbered n k [] le = tt
above_numbered n k (r ∷ records) le = (le, above_numbered n (k + 1) records (omega arith))

pub above_each : (n : ℕ) (l m : List (ℕ × Caught)) → AllAbove n (l ++ m) → AllAbove n l × AllAbove n m
above_each n [] m h = (tt, h)
above_each n (x ∷ l) m h = let more = above_each n l m h.1 in ((h.0, more.0), more.1)

-- the frames of each port come behind the records that were taken of it
abbrev pub AreBehind : List (List Record) → List Event → Type 0
AreBehind taken frames = (q : ℕ) (records : List Record) → slice_get taken q ≡ Some records → AllAbove (length records) (of_port (q + 1) (followed [] frames))

pub held_behind : (p q : ℕ) (taken batches : List (List Record)) (frames : List Event) (records : List Record) → length batches ≡ length taken → HoldBatches frames p (map (λ rs. length rs) taken) batches → slice_get taken q ≡ Some records → AllAbove (length records) (of_port (p + q) (followed [] frames))
held_behind p q [] batches frames records e held at = absurd (cc)
held_behind p q (rs ∷ taken) [] frames records e held at = absurd (omega arith)
held_behind p zero (rs ∷ taken) (batch ∷ batches) frames records e held at =
    let same : rs ≡ records = cc in
    subst (λ (l : List Record). AllAbove (length l) (of_port (p + zero) (followed [] frames))) same
    (subst (AllAbove (length rs)) (sym held.0 ∙ ap (λ (n : ℕ). of_port n (followed [] frames)) (let f : p ≡ p + zero = omega arith in f)) (above_numbered (length rs) (length rs) batch (omega arith)))
held_behind p (suc q) (rs ∷ taken) (batch ∷ batches) frames records e held at =
    subst (λ (n : ℕ). AllAbove (length records) (of_port n (followed [] frames))) (let f : p + 1 + q ≡ p + suc q = omega arith in f)
    (held_behind (p + 1) q taken batches frames records (omega arith) held.1 at)

-- a record behind those that were taken is of the window
slice_in : (c : Settings) (w : ℕ) (batch : List Record) (i : ℕ) → AreIn c w batch → IfSome (slice_get batch i) (λ r. window_start c r.moment ≡ w)
slice_in c w [] i own = tt
slice_in c w (r ∷ batch) zero own = own.0
slice_in c w (r ∷ batch) (suc i) own = slice_in c w batch i own.1

slice_behind : (c : Settings) (w : ℕ) (records batch : List Record) (i : ℕ) → length records ≤ i → AreIn c w batch → IfSome (slice_get (records ++ batch) i) (λ r. window_start c r.moment ≡ w)
slice_behind c w [] batch i le own = slice_in c w batch i own
slice_behind c w (r ∷ records) batch zero le own = absurd (omega arith)
slice_behind c w (r ∷ records) batch (suc i) le own = slice_behind c w records batch i (omega arith) own

pub record_behind : (c : Settings) (w q i : ℕ) (taken batches : List (List Record)) → length batches ≡ length taken → AllIn c w batches → ((records : List Record) → slice_get taken q ≡ Some records → length records ≤ i)
    → IfSome (option_and_then (λ (records : List Record). slice_get records i) (slice_get (with_more taken batches) q)) (λ r. window_start c r.moment ≡ w)
record_behind c w q i [] batches e own behind = tt
record_behind c w q i (records ∷ taken) [] e own behind = absurd (omega arith)
record_behind c w zero i (records ∷ taken) (batch ∷ batches) e own behind = slice_behind c w records batch i (behind records refl) own.0
record_behind c w (suc q) i (records ∷ taken) (batch ∷ batches) e own behind = record_behind c w q i taken batches (omega arith) own.1 behind

pub frames_of : (c : Settings) (w n : ℕ) (taken batches : List (List Record)) (frames : List Event) → length batches ≡ length taken → AllIn c w batches → AreFrames frames → HasPorts n (followed [] frames) → AreBehind taken frames → AreOf c w (with_more taken batches) frames
frames_of c w n taken batches [] e own are ports behind = tt
frames_of c w n taken batches (Tick m ended ∷ frames) e own are ports behind = absurd are
frames_of c w n taken batches (Frame port index caught verdict ∷ frames) e own are ports behind = (
  record_behind c w (port - 1) index taken batches e own first_behind,
  frames_of c w n taken batches frames e own are each.0 (λ q records at. (apart q records at).1),
)
  where
    each : HasPorts n (followed [] frames) × HasPorts n (Frame port index caught verdict ∷ [])
    each = ports-first n (Frame port index caught verdict) frames ports

    apart : (q : ℕ) (records : List Record) → slice_get taken q ≡ Some records → AllAbove (length records) (if eqb port (q + 1) then (index, caught) ∷ [] else []) × AllAbove (length records) (of_port (q + 1) (followed [] frames))
    apart q records at =
        above_each (length records) (if eqb port (q + 1) then (index, caught) ∷ [] else []) (of_port (q + 1) (followed [] frames))
        (subst (AllAbove (length records)) (of_port-followed (q + 1) (Frame port index caught verdict ∷ []) frames) (behind q records at))

    first_behind : (records : List Record) → slice_get taken (port - 1) ≡ Some records → length records ≤ index
    first_behind records at =
        let some = each.1.1 in
        let own_port : eqb port (port - 1 + 1) ≡ true = eq-eqb port (port - 1 + 1) (omega arith) in
        (subst (λ (b : Bool). AllAbove (length records) (if b then (index, caught) ∷ [] else [])) own_port (apart (port - 1) records at).0).0
