-- A run from a state goes on by a packet.
use Rattle.std.proofs.Common.{◌≡◌, ◌≢◌, ℕ, zero, suc, ◌+◌, ◌<◌, ◌≤◌, ◌^◌, ◌⊎◌, inl, inr, List, [], ◌∷◌, ◌++◌, length, length-append, map, slice_get, Option, Some, None, IfSome, refl, sym, ap, ◌∙◌, subst, arith}
use Rattle.std.specs.Prelude.{unwrap_or}
use Rattle.std.proofs.lemmas.Bool.{cases_order}
use Rattle.fab_config.specs.Settings.{Settings}
use Rattle.pcap_file.specs.declared.Record.{Record}
use Rattle.pcapng_file.specs.Classic.{recorded}
use Rattle.pcapng_file.specs.declared.NgRecord.{NgRecord}
use Rattle.fab_base.specs.Counting.{counting}
use Rattle.fab_policy.specs.Growing.{AllBelow, lines_from, records_to, with_more}
use Rattle.fab_policy.specs.Journal.{Journal, followed, frame_count}
use Rattle.fab_policy.specs.Legal.{of_port, numbered_from, window_start}
use Rattle.fab_policy.specs.Outputs.{State}
use Rattle.fab_policy.specs.Standing.{Contents, drained}
use Rattle.fab_policy.specs.State.{now_of}
use Rattle.fab_policy.specs.declared.event.Event.{Event}
use Rattle.fab_policy.specs.declared.event.Event.TheVariants.{Tick, Frame}
use Rattle.fab_states.specs.States.{sent_on, state_on}
use Rattle.fab_states.specs.Written.{piece_records, piece_text}
use Rattle.fab_states.proofs.WrittenLemmas.{clock-on, records_grow_from, text_grows_from}
use Rattle.fab_sending.specs.Message.{sent_of}
use Rattle.fab_sending.specs.declared.message.Out.{Out}
use Rattle.fab_pages.specs.Pages.{AreEarly}
use Rattle.fab_shared.specs.Handled.{HandledPort, HoldBatches, Handled}
use Rattle.fab_windows.specs.Window.{AreTicksBy}
use Rattle.fab_windows.proofs.CountLemmas.{frames-followed, length-followed}
use Rattle.fab_windows.proofs.SofarLemmas.{early, outs_are}
use Rattle.fab_policy.specs.Standing.{state_after}
use Rattle.fab_windows.specs.Steps.{NotAfter, Sofar, WindowIsRun, WindowsAreEarly}
use Rattle.fab_states.specs.Runs.{HoldsFrom, counts_on}
use Rattle.fab_live.specs.Arriving.{arrive, arrived, greatest_of, port_records, records_of}
use Rattle.fab_live.specs.From.{PacketsBegin, PacketsGoOn, RunningFrom, TakesFrom, reach}
use Rattle.fab_live.specs.Handling.{HandlesOne}
use Rattle.fab_live.proofs.ArrivingLemmas.{arrived-append, greatest-append, records_of-append, length-records_of, all_in_one, has_some_one, own, own_is, other_is}

-- ---- the record of one packet, behind those of its port

module _ (x : NgRecord) (v : List NgRecord) (later : List Event) where
  held_from : (k n : ℕ) (firsts : List ℕ) → length firsts ≡ n
      → ((j : ℕ) → of_port (k + j + 1) (followed [] later) ≡ numbered_from (unwrap_or (slice_get firsts j) 0 + length (port_records v (k + j))) (own x (k + j)))
      → HoldBatches later (k + 1) (counts_on firsts (map (port_records v) (counting k n))) (map (own x) (counting k n))
  held_from k zero [] e each = tt
  held_from k zero (first ∷ firsts) e each = absurd (omega arith)
  held_from k (suc n) [] e each = absurd (omega arith)
  held_from k (suc n) (first ∷ firsts) e each = (
    subst (λ (q : ℕ). of_port (q + 1) (followed [] later) ≡ numbered_from (first + length (port_records v q)) (own x q)) (let z : k + 0 ≡ k = omega arith in z) (each 0),
    held_from (k + 1) n firsts (omega arith) (λ j.
        subst (λ (q : ℕ). of_port (q + 1) (followed [] later) ≡ numbered_from (unwrap_or (slice_get firsts j) 0 + length (port_records v q)) (own x q)) (let z : k + suc j ≡ k + 1 + j = omega arith in z) (each (suc j))),
  )

module _ (x : NgRecord) (v : List NgRecord) (firsts : List ℕ) (port index : ℕ) (G H : Contents) (port_is : port ≡ x.face + 1) (index_is : index ≡ unwrap_or (slice_get firsts x.face) 0 + length (port_records v x.face))
    (h : HandledPort port index (recorded x ∷ []) G H) where
  each_port : (q : ℕ) → of_port (q + 1) (followed [] h.grown.later) ≡ numbered_from (unwrap_or (slice_get firsts q) 0 + length (port_records v q)) (own x q)
  each_port q = by_order (cases_order q x.face)
    where
      here : q ≡ x.face → of_port (q + 1) (followed [] h.grown.later) ≡ numbered_from (unwrap_or (slice_get firsts q) 0 + length (port_records v q)) (own x q)
      here e =
          ap (λ (p : ℕ). of_port p (followed [] h.grown.later)) (let s : q + 1 ≡ port = omega arith in s)
          ∙ h.own
          ∙ ap (λ (i : ℕ). numbered_from i (recorded x ∷ [])) (index_is ∙ ap (λ (p : ℕ). unwrap_or (slice_get firsts p) 0 + length (port_records v p)) (sym e))
          ∙ ap (numbered_from (unwrap_or (slice_get firsts q) 0 + length (port_records v q))) (sym (own_is x q (sym e)))

      elsewhere : q ≢ x.face → of_port (q + 1) (followed [] h.grown.later) ≡ numbered_from (unwrap_or (slice_get firsts q) 0 + length (port_records v q)) (own x q)
      elsewhere ne =
          h.others (q + 1) (λ e. ne (let s : q ≡ x.face = omega arith in s))
          ∙ ap (numbered_from (unwrap_or (slice_get firsts q) 0 + length (port_records v q))) (sym (other_is x q (λ e. ne (sym e))))

      by_order : (q ≡ x.face) ⊎ ((q < x.face) ⊎ (x.face < q)) → of_port (q + 1) (followed [] h.grown.later) ≡ numbered_from (unwrap_or (slice_get firsts q) 0 + length (port_records v q)) (own x q)
      by_order (inl e) = here e
      by_order (inr (inl less)) = elsewhere (λ e. absurd (omega arith))
      by_order (inr (inr more)) = elsewhere (λ e. absurd (omega arith))

  handled_from : (n : ℕ) → length firsts ≡ n → Handled (counts_on firsts (records_of n v)) (records_of n (x ∷ [])) G H
  handled_from n e =
      record {
        grown = h.grown;
        ports = h.ports;
        held = held_from x v h.grown.later 0 n firsts e (λ j.
            subst (λ (q : ℕ). of_port (q + 1) (followed [] h.grown.later) ≡ numbered_from (unwrap_or (slice_get firsts j) 0 + length (port_records v q)) (own x q)) (let z : j ≡ 0 + j = omega arith in z) (each_port j));
      }

-- ---- ticks are no frames

no_frames : (c : Settings) (w : ℕ) (S : State) (es : List Event) → AreTicksBy c w S es → frame_count es ≡ 0
no_frames c w S [] h = refl
no_frames c w S (Tick m ended ∷ es) h = no_frames c w (state_after c S (Tick m ended)) es h.1
no_frames c w S (Frame port index caught v ∷ es) h = absurd h

-- ---- a packet

module _ (window : WindowIsRun) (are_early : WindowsAreEarly) (c : Settings) (S : State) (firsts : List ℕ) (g n v w : ℕ) (packets : List NgRecord) (J : Journal) (F : Contents)
    (R : RunningFrom c S firsts g n v packets J F) (r : NgRecord) (face : r.face < n) (at : window_start c (arrive (greatest_of g packets) r).moment ≡ w) (soon : v ≤ w + 1)
    (port index : ℕ) (port_is : port ≡ r.face + 1) (index_is : index ≡ unwrap_or (slice_get firsts r.face) 0 + length (port_records (arrived g packets) r.face))
    (E : Contents) (events : List Event) (outs : List Out) (h : HandlesOne w port index (recorded (arrive (greatest_of g packets) r)) F E events outs) where
  abbrev x : NgRecord
  x = arrive (greatest_of g packets) r

  abbrev taken : List (List Record)
  taken = records_of n (arrived g packets)

  abbrev one : List (List Record)
  one = records_of n (x ∷ [])

  abbrev K : Journal
  K = followed J events

  handled : Handled (counts_on firsts taken) one h.ticked h.handled
  handled = handled_from x (arrived g packets) firsts port index h.ticked h.handled port_is index_is h.frame n R.width

  taken_on : records_of n (arrived g (packets ++ r ∷ [])) ≡ with_more taken one
  taken_on = ap (records_of n) (arrived-append g packets r) ∙ records_of-append n (arrived g packets) (x ∷ [])

  went_on : Sofar c S firsts n (w + 1) (with_more taken one) (followed J h.handled.events) (drained h.handled)
  went_on = window c S firsts n v w taken one J F h.ticked h.handled R.sofar soon (length-records_of n (x ∷ [])) (all_in_one x c w at n) (has_some_one x n face) h.ticks handled h.ranged

  pub sofar_on : Sofar c S firsts n (w + 1) (records_of n (arrived g (packets ++ r ∷ []))) K E
  sofar_on =
      subst (λ l. Sofar c S firsts n (w + 1) l K E) (sym taken_on)
      (subst (Sofar c S firsts n (w + 1) (with_more taken one) K) (sym h.after)
      (subst (λ l. Sofar c S firsts n (w + 1) (with_more taken one) (followed J l) (drained h.handled)) (sym h.events_) went_on))

  clock_on : E.state.tables.clock ≡ Some w
  clock_on = ap (λ (G : Contents). G.state.tables.clock) h.after ∙ h.frame.grown.clock ∙ h.ticks.at_clock

  settings_on : F.settings ≡ h.handled.settings
  settings_on = sym (h.frame.grown.settings ∙ h.ticks.settings)

  outs_here : map (sent_of F.settings events) outs ≡ h.handled.outs
  outs_here = (λ i. map (sent_of (settings_on i) (h.events_ i)) outs) ∙ h.outs_

  early_here : w < 2 ^ 53 → AreEarly outs
  early_here lt = early F.settings events w outs lt (subst (NotAfter w) (sym outs_here) (are_early w F h.ticked h.handled R.sofar.outs h.ticks h.frame.grown))

  ticks_first : h.ticked.events ≡ h.ticks.ticks
  ticks_first = h.ticks.events ∙ ap (λ (l : List Event). l ++ h.ticks.ticks) R.sofar.events

  counted : frame_count K ≡ length (packets ++ r ∷ [])
  counted =
      let none = ap frame_count ticks_first ∙ no_frames F.settings w F.state h.ticks.ticks h.ticks.are in
      let one = h.one in
      let same = ap frame_count h.events_ in
      let e = frames-followed J events in
      let before = R.counted in
      let more = length-append packets (r ∷ []) in
      omega (arith, none, one, same, e, before, more)

  -- ---- what it adds to the files

  sent_here : map (sent_of F.settings events) outs ≡ sent_on c n (state_on c S J) (followed [] events)
  sent_here =
      outs_here
      ∙ outs_are w F h.ticked h.handled (counts_on firsts taken) one h.ticks handled R.sofar.events R.sofar.outs
      ∙ ap (λ l. sent_on F.settings F.count F.state (followed [] l)) (sym h.events_)
      ∙ ap (λ s. sent_on s F.count F.state (followed [] events)) R.sofar.settings
      ∙ ap (λ m. sent_on c m F.state (followed [] events)) R.sofar.count
      ∙ ap (λ B. sent_on c n B (followed [] events)) R.sofar.state

  pub lines_here : piece_text (now_of S.tables) K ≡ piece_text (now_of S.tables) J ++ lines_from (unwrap_or F.state.tables.clock 0) events
  lines_here =
      text_grows_from (now_of S.tables) J events
      ∙ ap (λ (t : ℕ). piece_text (now_of S.tables) J ++ lines_from t events) (sym (clock-on c S J) ∙ ap (λ (B : State). now_of B.tables) (sym R.sofar.state))

  pub records_here : (q : ℕ) → piece_records c n (q + 1) S K ≡ piece_records c n (q + 1) S J ++ records_to (q + 1) (map (sent_of F.settings events) outs)
  records_here q = records_grow_from c n (q + 1) S J events ∙ ap (λ l. piece_records c n (q + 1) S J ++ records_to (q + 1) l) (sym sent_here)

  pub entries_here : length K ≡ length J + length events
  entries_here = length-followed J events

  takes : TakesFrom c S firsts g n w packets r J E events outs
  takes = takes_of
    where
      greatest : greatest_of g (packets ++ r ∷ []) ≡ x.moment
      greatest = greatest-append g packets r

      takes_of : TakesFrom c S firsts g n w packets r J E events outs
      takes_of = record {
        running = record {
          sofar = sofar_on;
          width = R.width;
          reach = subst (λ (o : Option ℕ). IfSome o (λ t. w + 1 ≡ t + 1)) (sym clock_on) refl;
          clock = subst (λ (o : Option ℕ). IfSome o (λ t. t ≡ window_start c (greatest_of g (packets ++ r ∷ [])))) (sym clock_on) (sym at ∙ ap (window_start c) (sym greatest));
          counted = counted;
        };
        early = early_here;
      }

pub packets_go_on : WindowIsRun → WindowsAreEarly → PacketsGoOn
packets_go_on window are_early c S firsts g n v w packets K F R r face at soon port index port_is index_is E events outs h =
    takes window are_early c S firsts g n v w packets K F R r face at soon port index port_is index_is E events outs h

-- ---- before the first packet

held_none : (k n : ℕ) (firsts : List ℕ) → length firsts ≡ n → HoldsFrom [] (k + 1) firsts (map (port_records []) (counting k n))
held_none k zero [] e = tt
held_none k zero (first ∷ firsts) e = absurd (omega arith)
held_none k (suc n) [] e = absurd (omega arith)
held_none k (suc n) (first ∷ firsts) e = (refl, held_none (k + 1) n firsts (omega arith))

below_in : (c : Settings) (w k n : ℕ) → AllBelow c w (map (port_records []) (counting k n))
below_in c w k zero = tt
below_in c w k (suc n) = (tt, below_in c w (k + 1) n)

reach_of : (o : Option ℕ) → IfSome o (λ t. (elim o [ None ↦ 0 | Some u ↦ u + 1 ]) ≡ t + 1)
reach_of None = tt
reach_of (Some t) = refl

pub packets_begin : PacketsBegin
packets_begin F firsts g n events outs count width clock = record {
  sofar = record {
    ranged = tt;
    run = record { ports = tt; frames = held_none 0 n firsts width; legal = tt; timed = tt };
    width = length-records_of n [];
    below = below_in F.settings (reach F) 0 n;
    state = refl;
    settings = refl;
    count = count;
    events = events;
    outs = outs;
  };
  width = width;
  reach = reach_of F.state.tables.clock;
  clock = clock;
  counted = refl;
}
