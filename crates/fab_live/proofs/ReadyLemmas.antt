-- What a packet needs, whatever led to where a forwarder stands.
use Rattle.std.proofs.Common.{◌≡◌, ℕ, ◌+◌, ◌-◌, ◌<◌, ◌≤◌, ◌^◌, List, [], ◌∷◌, ◌++◌, length, map, slice_get, slice_set, slice_index_or, Option, Some, IfSome, sym, ap, ◌∙◌, subst, arith}
use Rattle.std.specs.Prelude.{max, replicate, unwrap_or}
use Rattle.std.proofs.lemmas.List.{length-set}
use Rattle.std.proofs.lemmas.Option.{slice_get_within}
use Rattle.std.proofs.Math.Nat.{le-max_left, max-le}
use Rattle.fab_base.specs.Seen.{Seen}
use Rattle.fab_config.specs.Settings.{Settings}
use Rattle.pcapng_file.specs.Classic.{recorded}
use Rattle.pcapng_file.specs.File.{IsPacketKept}
use Rattle.pcapng_file.specs.declared.NgRecord.{NgRecord}
use Rattle.fab_policy.specs.Journal.{Journal, followed}
use Rattle.fab_policy.specs.Legal.{window_start}
use Rattle.fab_policy.specs.Outputs.{State}
use Rattle.fab_policy.specs.Standing.{Contents}
use Rattle.fab_policy.specs.declared.event.Event.{Event}
use Rattle.window_records.proofs.SlotLemmas.{some_is, item_at}
use Rattle.fab_sending.specs.Message.{sent_of}
use Rattle.fab_sending.specs.declared.message.Out.{Out}
use Rattle.fab_pages.specs.Pages.{AreEarly}
use Rattle.forward_core.specs.Fabric.{AreRanged}
use Rattle.fab_windows.proofs.SofarLemmas.{early, windows_are_early}
use Rattle.fab_windows.specs.Pages.{IsNothing, pending}
use Rattle.fab_windows.specs.Steps.{NotAfter, WindowIsRun}
use Rattle.fab_live.specs.declared.live.Live.{Live}
use Rattle.fab_live.specs.Arriving.{arrive, arrived, greatest_of, of_face}
use Rattle.fab_live.specs.Files.{LiveSlots, AreLive}
use Rattle.fab_live.specs.Handling.{HandlesOne}
use Rattle.fab_live.specs.Ready.{GoesFrom, HasRoom, IsReady, Running, nothing_of_live}
use Rattle.fab_live.specs.From.{RunningFrom, TakesFrom, reach}
use Rattle.fab_live.proofs.ArrivingLemmas.{greatest-append, length-recorded}
use Rattle.fab_live.proofs.FromLemmas.{packets_go_on}
use Rattle.fab_live.proofs.TakeLemmas.{count_few, counts_from, in_order, index_there, reach_some, soon, zeros_at}

-- a forwarder that runs has room for a packet more of a port, as long as it can count all and what the port had
pub room_of : (c : Settings) (n : ℕ) (f : LiveSlots) (packets : List NgRecord) (J : Journal) (l : Live) (a : Seen) → n ≡ length f.outs → Running c (nothing_of_live c n) f packets J l a → l.done.frames + 1 < 2 ^ 64 → (q : ℕ) → HasRoom l q
room_of c n f packets J l a n_is R room q i at =
    let within = slice_get_within l.counts.items q i at in
    let size = R.ready.size in
    let is = some_is (slice_get l.counts.items q) i (unwrap_or (slice_get (replicate n 0) q) 0 + length (of_face q (arrived 0 packets))) at (R.goes.counts q (omega (arith, within, size))) in
    let none = ap (λ (o : Option ℕ). unwrap_or o 0) (zeros_at n q (omega (arith, within, size, n_is))) in
    let few = count_few 0 q packets in
    let all = R.frames in
    omega (arith, is, none, few, all, room)

-- ---- a packet

module _ (f : LiveSlots) (l : Live) (a : Seen) (Y : IsReady f l a) (r : NgRecord) (face : r.face < length f.outs) (kept : IsPacketKept r) (s : Settings) (s_is : s ≡ l.fabric.settings) (y : NgRecord) (y_is : y ≡ arrive l.greatest r)
    (v : ℕ) (v_is : v ≡ window_start s y.moment) where
  moment_small : y.moment < 2 ^ 43
  moment_small =
      let le : max l.greatest r.moment ≤ 2 ^ 43 - 1 = max-le (let g = Y.range in omega arith) (let m = kept.moment in omega arith) in
      let e : y.moment ≡ max l.greatest r.moment = ap (λ (z : NgRecord). z.moment) y_is in
      omega (arith, e, le)

  v_here : v ≡ window_start l.fabric.settings y.moment
  v_here = v_is ∙ ap (λ (k : Settings). window_start k y.moment) s_is

  pub ready_small : v < 2 ^ 43
  ready_small = let m = moment_small in let e = v_here in omega (arith, m, e)

  pub ready_order : IfSome l.fabric.state.tables.clock (λ t. t ≤ v)
  ready_order =
      let later : l.greatest ≤ y.moment = (let up = le-max_left l.greatest r.moment in let e : y.moment ≡ max l.greatest r.moment = ap (λ (z : NgRecord). z.moment) y_is in omega (arith, up, e)) in
      subst (λ (u : ℕ). IfSome l.fabric.state.tables.clock (λ t. t ≤ u)) (sym v_here) (in_order l.fabric.settings l.greatest y.moment l.fabric.state.tables.clock later Y.clock)

  module _ (i : ℕ) (i_is : i ≡ slice_index_or l.counts.items r.face i) where
    read_at : (n : ℕ) → slice_get l.counts.items r.face ≡ Some n → i ≡ n
    read_at n at = index_there l.counts.items r.face i n (let size = Y.size in omega (arith, face, size)) i_is at

    pub ready_index : HasRoom l r.face → i + 1 < 2 ^ 64
    ready_index room =
        let size = Y.size in
        let there = item_at l.counts.items r.face (omega (arith, face, size)) in
        let same = read_at there.0 there.1 in
        let small = room there.0 there.1 in
        omega (arith, same, small)

    module _ (port : ℕ) (E : Contents) (events : List Event) (outs : List Out) (h : HandlesOne v port i (recorded y) l.fabric E events outs) where
      settings_on : l.fabric.settings ≡ h.handled.settings
      settings_on = sym (h.frame.grown.settings ∙ h.ticks.settings)

      outs_here : map (sent_of l.fabric.settings events) outs ≡ h.handled.outs
      outs_here = (λ k. map (sent_of (settings_on k) (h.events_ k)) outs) ∙ h.outs_

      pub ready_early : AreEarly outs
      ready_early =
          let m = ready_small in
          early l.fabric.settings events v outs (omega (arith, m))
          (subst (NotAfter v) (sym outs_here) (windows_are_early v l.fabric h.ticked h.handled Y.outs h.ticks h.frame.grown))

      pub ready_ranged : AreRanged events
      ready_ranged = subst AreRanged (sym h.events_) h.ranged

      abbrev clock_on : E.state.tables.clock ≡ Some v
      clock_on = ap (λ (G : Contents). G.state.tables.clock) h.after ∙ h.frame.grown.clock ∙ h.ticks.at_clock

      module _ (d : Seen) (files : AreLive d f) (l' : Live) (fabric_is : l'.fabric ≡ E) (greatest_is : l'.greatest ≡ y.moment) (counts_is : l'.counts.items ≡ slice_set l.counts.items r.face (i + 1)) where
        -- it is ready for the next one
        pub ready_on : IsNothing (pending l'.pages) → length l'.pages.records.items ≡ length f.outs → IsReady f l' d
        ready_on none pages = record {
          files = files;
          width = Y.width;
          few = Y.few;
          count = ap (λ (G : Contents). G.count) (fabric_is ∙ h.after) ∙ h.frame.grown.count ∙ h.ticks.count ∙ Y.count;
          events = ap (λ (G : Contents). G.events) (fabric_is ∙ h.after);
          outs = ap (λ (G : Contents). G.outs) (fabric_is ∙ h.after);
          range = let m = moment_small in omega (arith, greatest_is, m);
          clock = subst (λ (o : Option ℕ). IfSome o (λ t. t ≡ window_start l'.fabric.settings l'.greatest)) (sym (ap (λ (G : Contents). G.state.tables.clock) fabric_is ∙ clock_on))
              (v_here ∙ ap (window_start l.fabric.settings) (sym greatest_is) ∙ ap (λ (k : Settings). window_start k l'.greatest) (settings_on ∙ sym (ap (λ (G : Contents). G.settings) (fabric_is ∙ h.after))));
          size = ap length counts_is ∙ length-set l.counts.items r.face (i + 1) ∙ Y.size;
          nothing = none;
          pages = pages;
        }

        -- what stood behind the packets since a state stands behind this one
        module _ (window : WindowIsRun) (port_is : port ≡ r.face + 1) (c : Settings) (S : State) (firsts : List ℕ) (g : ℕ) (packets : List NgRecord) (K : Journal) (G : GoesFrom c S firsts g f packets K l) where
          y_from : y ≡ arrive (greatest_of g packets) r
          y_from = y_is ∙ ap (λ (k : ℕ). arrive k r) G.greatest

          at_window : window_start c (arrive (greatest_of g packets) r).moment ≡ v
          at_window = sym (v_here ∙ ap (λ (k : Settings). window_start k y.moment) G.running.sofar.settings ∙ ap (λ (z : NgRecord). window_start c z.moment) y_from)

          i_from : i ≡ unwrap_or (slice_get firsts r.face) 0 + length (of_face r.face (arrived g packets))
          i_from = read_at (unwrap_or (slice_get firsts r.face) 0 + length (of_face r.face (arrived g packets))) (G.counts r.face face)

          takes_from : TakesFrom c S firsts g (length f.outs) v packets r K E events outs
          takes_from =
              packets_go_on window windows_are_early c S firsts g (length f.outs) (reach l.fabric) v packets K l.fabric G.running r face at_window (soon l.fabric v ready_order) port i port_is
              (i_from ∙ ap (λ (k : ℕ). unwrap_or (slice_get firsts r.face) 0 + k) (sym (length-recorded (of_face r.face (arrived g packets))))) E events outs
              (subst (λ (z : NgRecord). HandlesOne v port i (recorded z) l.fabric E events outs) y_from h)

          pub stands_behind : GoesFrom c S firsts g f (packets ++ r ∷ []) (followed K events) l'
          stands_behind = record {
            running = subst (λ (B : Contents). RunningFrom c S firsts g (length f.outs) (reach B) (packets ++ r ∷ []) (followed K events) B) (sym fabric_is)
                (subst (λ (k : ℕ). RunningFrom c S firsts g (length f.outs) k (packets ++ r ∷ []) (followed K events) E) (sym (reach_some E v clock_on)) takes_from.running);
            greatest = greatest_is ∙ ap (λ (z : NgRecord). z.moment) y_from ∙ sym (greatest-append g packets r);
            counts = λ q lt. ap (λ (k : List ℕ). slice_get k q) counts_is ∙ counts_from firsts g packets r l.counts.items (length f.outs) i Y.size face i_from G.counts q lt;
          }
