-- What stands behind a packet, by what the parts of taking it say.
use Rattle.std.proofs.Common.{◌≡◌, ℕ, true, false, ◌+◌, ◌-◌, ◌<◌, ◌≤◌, ◌^◌, List, [], ◌∷◌, ◌++◌, length, length-append, map, slice_get, slice_set, slice_index_or, Option, Some, None, IfSome, IsTrue, Ok, Err, refl, sym, ap, ◌∙◌, subst, arith, append_assoc}
use Rattle.std.specs.Prelude.{min, unwrap_or}
use Rattle.fab_base.specs.Seen.{Seen}
use Rattle.fab_config.specs.Settings.{Settings}
use Rattle.pcapng_file.specs.declared.NgRecord.{NgRecord}
use Rattle.pcapng_file.specs.Classic.{classic_record, recorded}
use Rattle.pcapng_file.specs.File.{IsPacketKept}
use Rattle.fab_policy.specs.Growing.{lines_from, records_to}
use Rattle.fab_policy.specs.Journal.{Journal, followed}
use Rattle.fab_policy.specs.Legal.{window_start}
use Rattle.fab_policy.specs.Outputs.{State}
use Rattle.fab_policy.specs.Standing.{Contents}
use Rattle.fab_policy.specs.State.{now_of}
use Rattle.fab_policy.specs.declared.event.Event.{Event}
use Rattle.fab_states.specs.Written.{piece_records, piece_text}
use Rattle.window_records.specs.Looks.{is_too_late}
use Rattle.fab_sending.specs.Message.{sent_of}
use Rattle.fab_sending.specs.declared.message.Out.{Out}
use Rattle.run_files.specs.Pages.{items_in, piece_at}
use Rattle.fab_windows.specs.From.{captures_on, journal_on}
use Rattle.fab_windows.specs.Pages.{pending}
use Rattle.fab_windows.specs.Steps.{EntriesAreFew, Sofar, WindowIsRun}
use Rattle.fab_windows.specs.declared.pages.Pages.{Pages}
use Rattle.pcap_file.specs.declared.fault.LimitKind.TheVariants as limits
use Rattle.fab_windows.proofs.SofarLemmas.{windows_are_early}
use Rattle.fab_live.specs.declared.live.Live.{Live}
use Rattle.fab_live.specs.declared.fault.LiveFault.{LiveFault}
use Rattle.fab_live.specs.declared.fault.LiveFault.TheVariants as fault
use Rattle.fab_live.specs.Arriving.{AllFaces, arrive, arrived, greatest_of, of_face, records_of}
use Rattle.fab_live.specs.Files.{GrowsAt, LiveSlots, WritesPacket}
use Rattle.fab_live.specs.From.{reach}
use Rattle.fab_live.specs.Handling.{HandlesOne}
use Rattle.fab_live.specs.Ready.{Beginning, GoesFrom, IsReady, LeavesPacket, LeftBrokenOn, LeftWholeOn, Running, came_on}
use Rattle.fab_live.proofs.ArrivingLemmas.{length-recorded}
use Rattle.fab_live.proofs.FromLemmas.{entries_here, lines_here, records_here, sofar_on}
use Rattle.fab_live.proofs.ReadyLemmas.{ready_order, stands_behind}
use Rattle.fab_live.proofs.TakeLemmas.{all_faces, first_more, grows, index_there, kept_more, soon, span_more, span_passed}

-- a count that stands at its end where it would pass it
saturated : (now was j k more : ℕ) → now ≡ min (was + more) (2 ^ 64 - 1) → was ≡ min j (2 ^ 64 - 1) → k ≡ j + more → now ≡ min k (2 ^ 64 - 1)
saturated now was j k more a b c = omega (arith, a, b, c)

-- how many entries there are behind so many packets
pub entries_there : EntriesAreFew → (c : Settings) (b : Beginning) (f : LiveSlots) (packets : List NgRecord) (J : Journal) (l : Live) (d : Seen) → Running c b f packets J l d → length J ≤ length packets + 2 ^ 43
entries_there few c b f packets J l d R =
    let within = few c b.origin.state b.firsts (records_of (length f.outs) (arrived b.greatest packets)) J (2 ^ 43) R.goes.running.sofar.run.timed
    (subst (λ (S : State). IfSome S.tables.clock (λ t. t < 2 ^ 43)) R.goes.running.sofar.state (below l.fabric.state.tables.clock R.ready.clock R.ready.range)) in
    let counted = R.goes.running.counted in
    omega (arith, within, counted)
  where
    below : (o : Option ℕ) → IfSome o (λ t. t ≡ window_start l.fabric.settings l.greatest) → l.greatest < 2 ^ 43 → IfSome o (λ t. t < 2 ^ 43)
    below None h lt = tt
    below (Some t) h lt = omega (arith, h, lt)

-- want of memory leaves what stood
abbrev pub left_whole : (c : Settings) (b : Beginning) (f : LiveSlots) (packets : List NgRecord) (J : Journal) (l : Live) (a : Seen) → Running c b f packets J l a → LeftWholeOn c b a f packets
left_whole c b f packets J l a R = record {
  entry_list = J;
  run = record { ranged = R.goes.running.sofar.ranged; run = R.goes.running.sofar.run; faces = R.faces; span = R.span; kept = R.kept };
  hold = R.hold;
}

-- ---- by the code's own values

module _ (c : Settings) (b : Beginning) (f : LiveSlots) (packets : List NgRecord) (J : Journal) (l : Live) (a : Seen) (R : Running c b f packets J l a) (r : NgRecord) (face : r.face < length f.outs) (kept : IsPacketKept r)
    (s : Settings) (s_is : s ≡ l.fabric.settings) (y : NgRecord) (y_is : y ≡ arrive l.greatest r) (v : ℕ) (v_is : v ≡ window_start s y.moment) where
  abbrev g : ℕ
  g = b.greatest

  abbrev S : State
  S = b.origin.state

  abbrev n : ℕ
  n = length f.outs

  y_from : y ≡ arrive (greatest_of g packets) r
  y_from = y_is ∙ ap (λ (k : ℕ). arrive k r) R.goes.greatest

  at : window_start c (arrive (greatest_of g packets) r).moment ≡ v
  at = sym (v_is ∙ ap (λ (k : Settings). window_start k y.moment) (s_is ∙ R.goes.running.sofar.settings) ∙ ap (λ (z : NgRecord). window_start c z.moment) y_from)

  order : IfSome l.fabric.state.tables.clock (λ t. t ≤ v)
  order = ready_order f l a R.ready r face kept s s_is y y_is v v_is

  module _ (first : ℕ) (first_is : first ≡ unwrap_or l.first v) where
    test_here : is_too_late (unwrap_or l.first v) (Some v) ≡ is_too_late first (Some v)
    test_here = ap (λ (k : ℕ). is_too_late k (Some v)) (sym first_is)

    pub late_code : is_too_late first (Some v) ≡ true → LeavesPacket c b f packets r a (fault.Limit limits.Span)
    late_code e = (left_whole c b f packets J l a R, span_passed c g packets r l.first R.first v at (test_here ∙ e))

  module _ (window : WindowIsRun) (i : ℕ) (i_is : i ≡ slice_index_or l.counts.items r.face i) (port : ℕ) (port_is : port ≡ r.face + 1) (E : Contents) (events : List Event) (outs : List Out)
      (h : HandlesOne v port i (recorded y) l.fabric E events outs) where
    abbrev K : Journal
    K = followed J events

    index_here : i ≡ unwrap_or (slice_get b.firsts r.face) 0 + length (map recorded (of_face r.face (arrived g packets)))
    index_here =
        index_there l.counts.items r.face i _ (let e = R.ready.size in omega (arith, e, face)) i_is (R.goes.counts r.face face)
        ∙ ap (λ (k : ℕ). unwrap_or (slice_get b.firsts r.face) 0 + k) (sym (length-recorded (of_face r.face (arrived g packets))))

    h' : HandlesOne v port i (recorded (arrive (greatest_of g packets) r)) l.fabric E events outs
    h' = subst (λ (z : NgRecord). HandlesOne v port i (recorded z) l.fabric E events outs) y_from h

    text' : piece_text (now_of S.tables) K ≡ piece_text (now_of S.tables) J ++ lines_from (unwrap_or l.fabric.state.tables.clock 0) events
    text' = lines_here window windows_are_early c S b.firsts g n (reach l.fabric) v packets J l.fabric R.goes.running r face at (soon l.fabric v order) port i port_is index_here E events outs h'

    records' : (q : ℕ) → piece_records c n (q + 1) S K ≡ piece_records c n (q + 1) S J ++ records_to (q + 1) (map (sent_of l.fabric.settings events) outs)
    records' = records_here window windows_are_early c S b.firsts g n (reach l.fabric) v packets J l.fabric R.goes.running r face at (soon l.fabric v order) port i port_is index_here E events outs h'

    entries' : length K ≡ length J + length events
    entries' = entries_here window windows_are_early c S b.firsts g n (reach l.fabric) v packets J l.fabric R.goes.running r face at (soon l.fabric v order) port i port_is index_here E events outs h'

    sofar' : Sofar c S b.firsts n (v + 1) (records_of n (arrived g (packets ++ r ∷ []))) K E
    sofar' = sofar_on window windows_are_early c S b.firsts g n (reach l.fabric) v packets J l.fabric R.goes.running r face at (soon l.fabric v order) port i port_is index_here E events outs h'

    settings_same : E.settings ≡ l.fabric.settings
    settings_same = ap (λ (F : Contents). F.settings) h.after ∙ h.frame.grown.settings ∙ h.ticks.settings

    grows' : GrowsAt r.face (classic_record y) (came_on b packets) (came_on b (packets ++ r ∷ []))
    grows' = subst (λ (z : NgRecord). GrowsAt r.face (classic_record z) (came_on b packets) (came_on b (packets ++ r ∷ []))) (sym y_from) (grows g packets r b.heads)

    faces' : AllFaces n (packets ++ r ∷ [])
    faces' = all_faces n packets r R.faces face

    module _ (at_ : ℕ) (at_is : at_ ≡ unwrap_or l.fabric.state.tables.clock 0) (t : Settings) (t_is : t ≡ E.settings) (p : Pages) (p_lines : p.lines.items ≡ l.pages.lines.items ++ lines_from at_ events)
        (p_pieces : (q : ℕ) → q < length l.pages.records.items → piece_at (items_in p.records.items) q ≡ piece_at (items_in l.pages.records.items) q ++ records_to (q + 1) (map (sent_of t events) outs)) (d : Seen) where
      lines_code : p.lines.items ≡ lines_from (unwrap_or l.fabric.state.tables.clock 0) events
      lines_code = p_lines ∙ ap (λ (x : List ℕ). x ++ lines_from at_ events) R.ready.nothing.lines_ ∙ ap (λ (u : ℕ). lines_from u events) at_is

      pieces_code : (q : ℕ) → q < n → piece_at (items_in p.records.items) q ≡ records_to (q + 1) (map (sent_of l.fabric.settings events) outs)
      pieces_code q lt =
          p_pieces q (let e = R.ready.pages in omega (arith, e, lt))
          ∙ ap (λ (x : List ℕ). x ++ records_to (q + 1) (map (sent_of t events) outs)) (R.ready.nothing.pieces_ q)
          ∙ ap (λ (k : Settings). records_to (q + 1) (map (sent_of k events) outs)) (t_is ∙ settings_same)

      text_on : journal_on b.origin K ≡ journal_on b.origin J ++ p.lines.items
      text_on =
          ap (λ (x : List ℕ). b.origin.heads.lines ++ x) (text' ∙ ap (λ (x : List ℕ). piece_text (now_of S.tables) J ++ x) (sym lines_code))
          ∙ sym (append_assoc b.origin.heads.lines (piece_text (now_of S.tables) J) p.lines.items)

      captures_grow : (q : ℕ) → q < n → captures_on c b.origin n K q ≡ captures_on c b.origin n J q ++ piece_at (items_in p.records.items) q
      captures_grow q lt =
          ap (λ (x : List ℕ). b.origin.heads.records_of q ++ x) (records' q ∙ ap (λ (x : List ℕ). piece_records c n (q + 1) S J ++ x) (sym (pieces_code q lt)))
          ∙ sym (append_assoc (b.origin.heads.records_of q) (piece_records c n (q + 1) S J) (piece_at (items_in p.records.items) q))

      module _ (first : ℕ) (first_is : first ≡ unwrap_or l.first v) (timely : is_too_late first (Some v) ≡ false) (l' : Live) (fabric_is : l'.fabric ≡ E) (greatest_is : l'.greatest ≡ y.moment)
          (counts_is : l'.counts.items ≡ slice_set l.counts.items r.face (i + 1)) (live : IsReady f l' d) where
        goes_on : GoesFrom c S b.firsts g f (packets ++ r ∷ []) K l'
        goes_on =
            stands_behind f l a R.ready r face kept s s_is y y_is v v_is i i_is port E events outs h d live.files l' fabric_is greatest_is counts_is window port_is c S b.firsts g packets J R.goes

        pub running_code : WritesPacket f r.face (classic_record y) (pending p) a d (Ok tt) → l'.first ≡ Some first → l'.done.frames ≡ l.done.frames + 1
            → l'.done.entries ≡ min (l.done.entries + length events) (2 ^ 64 - 1) → Running c b f (packets ++ r ∷ []) K l' d
        running_code wr l_first frames_is entries_is = record {
          ready = live;
          goes = goes_on;
          faces = faces';
          span = span_more c g packets r l.first R.first v at R.span (test_here first first_is ∙ timely);
          kept = kept_more packets r R.kept kept;
          first = l_first ∙ ap (λ (k : ℕ). Some k) first_is ∙ first_more c g packets r l.first R.first v at;
          frames = frames_is ∙ (let t = R.frames in let e = length-append packets (r ∷ []) in omega (arith, t, e));
          entries = saturated l'.done.entries l.done.entries (length J) (length K) (length events) entries_is R.entries entries';
          hold = λ told.
              let told_a = subst IsTrue wr.uses.touches.told told in
              let had = R.hold told_a in
              let both = wr.whole told_a (journal_on b.origin J) (journal_on b.origin K) (captures_on c b.origin n J) (captures_on c b.origin n K) (came_on b packets) (came_on b (packets ++ r ∷ [])) had.wholes had.came text_on captures_grow grows' in
              record { wholes = both.0; came = both.1 };
        }

      -- a write that failed
      left_broken : (first : ℕ) → first ≡ unwrap_or l.first v → is_too_late first (Some v) ≡ false → WritesPacket f r.face (classic_record y) (pending p) a d (Err fault.Write) → LeftBrokenOn c b d f (packets ++ r ∷ [])
      left_broken first first_is timely wr = record {
        entry_list = K;
        run = record {
          ranged = sofar'.ranged;
          run = sofar'.run;
          faces = faces';
          span = span_more c g packets r l.first R.first v at R.span (test_here first first_is ∙ timely);
          kept = kept_more packets r R.kept kept;
        };
        hold = λ told.
            let told_a = subst IsTrue wr.uses.touches.told told in
            let had = R.hold told_a in
            let both = wr.front told_a (journal_on b.origin J) (journal_on b.origin K) (captures_on c b.origin n J) (captures_on c b.origin n K) (came_on b packets) (came_on b (packets ++ r ∷ [])) had.wholes had.came text_on captures_grow grows' in
            record { fronts = record { before = Some J; begins = (events, refl); hold = both.0 }; came = both.1; order = both.2 };
      }

      pub broken_code : (first : ℕ) → first ≡ unwrap_or l.first v → is_too_late first (Some v) ≡ false → (e : LiveFault) → e ≡ fault.Write → WritesPacket f r.face (classic_record y) (pending p) a d (Err e) → LeavesPacket c b f packets r d e
      broken_code first first_is timely e e_is wr =
          subst (LeavesPacket c b f packets r d) (sym e_is) (left_broken first first_is timely (subst (λ (z : LiveFault). WritesPacket f r.face (classic_record y) (pending p) a d (Err z)) e_is wr))
