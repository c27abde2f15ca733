-- A window that was gathered and handled: what stands after it, before and behind its writing.
use Rattle.std.proofs.Common.{◌≡◌, ℕ, suc, ◌+◌, ◌^◌, ◌<◌, ◌≤◌, List, [], ◌∷◌, ◌++◌, length, map, Some, IfSome, IsTrue, Result, Ok, Err, inl, inr, take, drop, refl, sym, ap, ◌∙◌, subst, arith, append_assoc}
use Rattle.std.specs.Prelude.{unwrap_or}
use Rattle.fab_base.specs.Ending.{End, Uses}
use Rattle.fab_base.specs.Seen.{Seen, Nothing}
use Rattle.fab_base.specs.declared.values.Failed.{Failed}
use Rattle.fab_config.specs.Settings.{Settings}
use Rattle.fab_policy.specs.Growing.{lines_from, records_to, with_more}
use Rattle.fab_policy.specs.Journal.{Journal, followed, frame_count}
use Rattle.fab_policy.specs.Outputs.{State}
use Rattle.fab_policy.specs.Standing.{Contents, drained}
use Rattle.fab_policy.specs.State.{now_of}
use Rattle.fab_policy.specs.declared.event.Event.{Event}
use Rattle.fab_states.specs.Runs.{counts_on, none_of}
use Rattle.fab_states.specs.States.{sent_on, state_on}
use Rattle.fab_states.specs.Written.{clock_on, piece_records, piece_text}
use Rattle.fab_states.proofs.NothingLemmas.{held_nothing}
use Rattle.fab_states.proofs.WrittenLemmas.{clock-on}
use Rattle.fab_sending.specs.Message.{sent_of}
use Rattle.fab_sending.specs.declared.message.Out.{Out}
use Rattle.forward_core.specs.Fabric.{AreRanged}
use Rattle.pcap_file.specs.declared.Budget.{Budget}
use Rattle.pcap_file.specs.declared.Record.{Record}
use Rattle.window_records.specs.declared.shelf.Input.{Input}
use Rattle.window_records.specs.declared.shelf.Shelf.{Shelf}
use Rattle.run_files.specs.declared.fault.RunFault.{RunFault}
use Rattle.run_files.specs.declared.fault.RunFault.TheVariants as fault
use Rattle.pcap_file.specs.declared.fault.GatherFault.{GatherFault}
use Rattle.window_records.specs.First.{IsNextWindow}
use Rattle.fab_base.specs.Slots.{NameIn}
use Rattle.window_records.specs.Ports.{slots_of, walk_at}
use Rattle.window_records.specs.Reads.{batches_of}
use Rattle.fab_windows.specs.declared.Done.{Done}
use Rattle.fab_windows.specs.Files.{AreFiles, Pending, GoesOn, Writes, file_slots}
use Rattle.fab_windows.specs.From.{WholesButOn, captures_on, journal_on}
use Rattle.fab_pages.specs.Pages.{AreEarly}
use Rattle.fab_windows.specs.Pages.{FlushedFor}
use Rattle.run_files.specs.Faults.{fault_from}
use Rattle.fab_base.proofs.EndingLemmas.{none_then}
use Rattle.fab_windows.specs.Steps.{NotAfter, Sofar}
use Rattle.fab_windows.specs.Turns.{Laws, Task, captures_in, start_of, Reached, Going, Gathered, Ended, Handles, Publishes, paged_at}
use Rattle.window_records.specs.Gather.{Gathers}
use Rattle.fab_windows.specs.Window.{Ticked, Handled, firsts_of}
use Rattle.fab_windows.proofs.CountLemmas.{frames_found, length-followed, frames-followed}
use Rattle.fab_windows.proofs.SofarLemmas.{counts-none, early, none-more, outs_are}
use Rattle.fab_pages.proofs.PageLemmas.{front_of}
use Rattle.window_records.specs.Walked.{Walked}
use Rattle.window_records.proofs.SlotLemmas.{same_length}
use Rattle.window_records.proofs.UsesLemmas.{uses_touches}
use Rattle.window_records.proofs.WalkedLemmas.{walked_on}
use Rattle.fab_windows.proofs.FileLemmas.{files_stay}
use Rattle.fab_windows.proofs.TurnLemmas.{read_touches, reached_on, ended_writing, ended_gathering, ended_closing, ended_unwritten, but_on, files_now}

length-batches : (shelves : List Shelf) → length (batches_of shelves) ≡ length shelves
length-batches [] = refl
length-batches (s ∷ shelves) = ap suc (length-batches shelves)

-- ticks, frames and what is handed out, one after another
pub handles_by : (w : ℕ) (shelves : List Shelf) (F G H E : Contents) (events : List Event) (outs : List Out) → Ticked w F G → Handled (firsts_of shelves) (batches_of shelves) G H →
    E ≡ drained H → events ≡ H.events → map (sent_of H.settings H.events) outs ≡ H.outs → AreRanged H.events → Handles w shelves F E events outs
handles_by w shelves F G H E events outs t f after es sents ranged =
    let settings : F.settings ≡ H.settings = sym (f.grown.settings ∙ t.settings) in
    record {
      ticked = G;
      handled = H;
      ticks = t;
      frames = f;
      after = after;
      events_ = es;
      outs_ = (λ i. map (sent_of (settings i) (es i)) outs) ∙ sents;
      ranged = subst AreRanged (sym es) ranged;
    }

module _ (laws : Laws) (k : Task) (w first : ℕ) (F : Contents) (d : Seen) (ins : List Input) (shelves : List Shelf) (left : Budget) (r : Reached k w first F (walk_at d ins shelves left))
    (b : Seen) (ins' : List Input) (shelves' : List Shelf) (left' : Budget) (t : Gathers k.settings first w (walk_at d ins shelves left) (walk_at b ins' shelves' left') (Ok tt))
    (next : IsNextWindow k.settings shelves (Some w)) (E : Contents) (events : List Event) (outs : List Out) (h : Handles w shelves' F E events outs) where
  abbrev c : Settings
  c = k.settings

  abbrev taken' : List (List Record)
  taken' = with_more r.taken (batches_of shelves')

  abbrev K : Journal
  K = followed r.entry_list events

  pub walked_after : Walked c (start_of k) (w + 1) first taken' (walk_at b ins' shelves' left')
  walked_after = walked_on c (start_of k) w first r.taken (walk_at d ins shelves left) r.walked (walk_at b ins' shelves' left') t

  width : length r.taken ≡ length shelves'
  width = r.sofar.width ∙ sym (same_length k.ins ins r.walked.slots) ∙ sym r.walked.count ∙ sym t.count

  -- the next indexes are how many were taken, and go on to be
  firsts_are : firsts_of shelves' ≡ counts_on (none_of r.taken) r.taken
  firsts_are = laws.firsts_taken c (w + 1) (captures_in k) r.taken ins' shelves' b width walked_after.read ∙ sym (counts-none r.taken)

  frames_here : Handled (counts_on (none_of r.taken) r.taken) (batches_of shelves') h.ticked h.handled
  frames_here = subst (λ l. Handled l (batches_of shelves') h.ticked h.handled) firsts_are h.frames

  pub sofar_on : Sofar c k.origin.state (none_of taken') (length k.ins) (w + 1) taken' K E
  sofar_on =
      let moved = laws.moves c w (walk_at d ins shelves left) (walk_at b ins' shelves' left') r.walked.count (same_length ins ins' t.slots) t.count next t.took t.ready t.spent in
      let n : length (batches_of shelves') ≡ length k.ins = length-batches shelves' ∙ sym width ∙ r.sofar.width in
      let ranged = subst AreRanged h.events_ h.ranged in
      let s = laws.windows_run c k.origin.state (none_of r.taken) (length k.ins) w w r.taken (batches_of shelves') r.entry_list F h.ticked h.handled r.sofar (let le : w ≤ w + 1 = omega arith in le) n moved.batches moved.some h.ticks frames_here ranged in
      subst (λ l. Sofar c k.origin.state l (length k.ins) (w + 1) taken' K E) (sym (none-more r.taken (batches_of shelves')))
      (subst (Sofar c k.origin.state (none_of r.taken) (length k.ins) (w + 1) taken' K) (sym h.after)
      (subst (λ l. Sofar c k.origin.state (none_of r.taken) (length k.ins) (w + 1) taken' (followed r.entry_list l) (drained h.handled)) (sym h.events_) s))

  pub clock_set : E.state.tables.clock ≡ Some w
  clock_set = ap (λ (G : Contents). G.state.tables.clock) h.after ∙ h.frames.grown.clock ∙ h.ticks.at_clock

  abbrev pub reached_after : Reached k (w + 1) first E (walk_at b ins' shelves' left')
  reached_after = record {
    given = r.given;
    ports = r.ports;
    outputs = r.outputs;
    limits = r.limits;
    touches = read_touches laws k w first F d ins shelves left r b t.uses;
    faults = none_then k.seen d b r.faults t.uses.counts;
    taken = taken';
    walked = walked_after;
    entry_list = K;
    sofar = sofar_on;
    clock = subst (λ o. IfSome o (λ u. u < w + 1)) (sym clock_set) (omega arith);
  }

  -- ---- what it adds to the files

  settings_same : F.settings ≡ c
  settings_same = r.sofar.settings

  -- what it sends is what its entries send
  sent_here : map (sent_of F.settings events) outs ≡ sent_on c (length k.outs) (state_on c k.origin.state r.entry_list) (followed [] events)
  sent_here =
      h.outs_
      ∙ outs_are w F h.ticked h.handled (firsts_of shelves') (batches_of shelves') h.ticks h.frames r.sofar.events r.sofar.outs
      ∙ ap (λ l. sent_on F.settings F.count F.state (followed [] l)) (sym h.events_)
      ∙ ap (λ s. sent_on s F.count F.state (followed [] events)) settings_same
      ∙ ap (λ n. sent_on c n F.state (followed [] events)) (r.sofar.count ∙ sym r.outputs)
      ∙ ap (λ B. sent_on c (length k.outs) B (followed [] events)) r.sofar.state

  pub early_here : w < 2 ^ 53 → AreEarly outs
  early_here lt = early F.settings events w outs lt (subst (NotAfter w) (sym h.outs_) (laws.early w F h.ticked h.handled r.sofar.outs h.ticks h.frames.grown))

  -- the clock from which its lines go on
  clock_here : clock_on (now_of k.origin.state.tables) r.entry_list ≡ unwrap_or F.state.tables.clock 0
  clock_here = sym (clock-on c k.origin.state r.entry_list) ∙ ap (λ (S : State). now_of S.tables) (sym r.sofar.state)

  lines_here : journal_on k.origin K ≡ journal_on k.origin r.entry_list ++ lines_from (unwrap_or F.state.tables.clock 0) events
  lines_here =
      ap (λ l. k.origin.heads.lines ++ l) (laws.text_grows (now_of k.origin.state.tables) r.entry_list events ∙ ap (λ (t : ℕ). piece_text (now_of k.origin.state.tables) r.entry_list ++ lines_from t events) clock_here)
      ∙ sym (append_assoc k.origin.heads.lines (piece_text (now_of k.origin.state.tables) r.entry_list) (lines_from (unwrap_or F.state.tables.clock 0) events))

  records_here : (q : ℕ) → q < length k.outs → captures_on c k.origin (length k.outs) K q ≡ captures_on c k.origin (length k.outs) r.entry_list q ++ records_to (q + 1) (map (sent_of F.settings events) outs)
  records_here q lt =
      ap (λ l. k.origin.heads.records_of q ++ l) (laws.records_grow c (length k.outs) (q + 1) k.origin.state r.entry_list events ∙ ap (λ l. piece_records c (length k.outs) (q + 1) k.origin.state r.entry_list ++ records_to (q + 1) l) (sym sent_here))
      ∙ sym (append_assoc (k.origin.heads.records_of q) (piece_records c (length k.outs) (q + 1) k.origin.state r.entry_list) (records_to (q + 1) (map (sent_of F.settings events) outs)))

  -- what was written before goes on to this journal too
  goes_on : (I : Journal) → GoesOn I r.entry_list → GoesOn I K
  goes_on I h = (h.0 ++ events, ap (λ L. followed L events) h.1 ∙ sym (laws.followed_by I h.0 events))

  module _ (p : Pending) (files : IsTrue k.seen.told → WholesButOn p c k.origin b k.journal k.outs r.entry_list) (z : Seen) (p' : Pending) where
    told_b : IsTrue k.seen.told → IsTrue b.told
    told_b told = subst IsTrue (sym (t.uses.touches.told ∙ r.touches.told)) told

    pub ended_publishing : (e : RunFault) → Publishes (file_slots k.journal k.outs) (lines_from (unwrap_or F.state.tables.clock 0) events) (map (sent_of F.settings events) outs) (paged_at b p) (paged_at z p') (Err e) → Ended k z e
    ended_publishing e x =
        ended_writing laws k (w + 1) first E b ins' shelves' left' reached_after z e x.uses x.only
        (λ told. let f = files told in record { before = Some f.before; begins = goes_on f.before f.begins; hold = x.front (told_b told) (journal_on k.origin f.before) (journal_on k.origin r.entry_list) (journal_on k.origin K) (captures_on c k.origin (length k.outs) f.before) (captures_on c k.origin (length k.outs) r.entry_list) (captures_on c k.origin (length k.outs) K) f.hold lines_here records_here })

    module _ (done done' : Done) (frames : done.frames ≡ frame_count r.entry_list) (entries : done.entries ≡ length r.entry_list) where
      pub going_on : Publishes (file_slots k.journal k.outs) (lines_from (unwrap_or F.state.tables.clock 0) events) (map (sent_of F.settings events) outs) (paged_at b p) (paged_at z p') (Ok tt) →
          done'.frames ≡ done.frames + frame_count events → done'.entries ≡ done.entries + length events → Going k (w + 1) first E (walk_at z ins' shelves' left') done' p'
      going_on x more_frames more_entries = record {
        reached = reached_on laws k (w + 1) first E b ins' shelves' left' reached_after z x.uses x.uses.counts;
        files = λ told.
            let f = files told in
            elim (x.whole (told_b told) (journal_on k.origin f.before) (journal_on k.origin r.entry_list) (journal_on k.origin K) (captures_on c k.origin (length k.outs) f.before) (captures_on c k.origin (length k.outs) r.entry_list) (captures_on c k.origin (length k.outs) K) f.hold lines_here records_here) [
              | inl later ↦ record { before = f.before; begins = goes_on f.before f.begins; hold = later }
              | inr all ↦ record { before = K; begins = ([], refl); hold = all }
            ];
        frames = more_frames ∙ ap (λ (n : ℕ). n + frame_count events) frames ∙ sym (frames-followed r.entry_list events);
        entries = more_entries ∙ ap (λ (n : ℕ). n + length events) entries ∙ sym (length-followed r.entry_list events);
      }

      -- the numbers don't come to their types' ends
      pub room_on : w < 2 ^ 43 → (done.frames + frame_count events < 2 ^ 64) × (done.entries + length events < 2 ^ 64)
      room_on lt =
          let x = reached_after in
          let ports = x.sofar.run.ports in
          let held = held_nothing K 1 taken' x.sofar.run.frames in
          let found = frames_found c (length k.ins) (w + 1) (captures_in k) taken' K ins' shelves' b x.sofar.width ports held x.walked.read in
          let few = laws.few c k.origin.state (none_of taken') taken' K (w + 1) x.sofar.run.timed (subst (λ (S : State). IfSome S.tables.clock (λ u. u < w + 1)) x.sofar.state x.clock) in
          let a = frames-followed r.entry_list events in
          let e = length-followed r.entry_list events in
          let bytes = x.walked.spent.bytes in
          (omega (arith, found, a, frames, bytes, r.limits), omega (arith, found, few, a, e, entries, bytes, lt, r.limits))

-- ---- one turn

-- the files are open behind the reading of a window
pub files_then : (laws : Laws) (k : Task) (w first : ℕ) (F : Contents) (d : Seen) (ins : List Input) (shelves : List Shelf) (left : Budget) (done : Done) (p : Pending) → Going k w first F (walk_at d ins shelves left) done p →
    (b : Seen) {end : End} → Uses (NameIn d (slots_of ins)) Nothing end d b → AreFiles b k.journal k.outs
files_then laws k w first F d ins shelves left done p g b u = files_stay Nothing (NameIn d (slots_of ins)) d b (uses_touches (NameIn d (slots_of ins)) d b u) k.journal k.outs (files_now laws k w first F d ins shelves left g.reached)

module _ (laws : Laws) (k : Task) (w first : ℕ) (F : Contents) (d : Seen) (ins : List Input) (shelves : List Shelf) (left : Budget) (done : Done) (p : Pending) (g : Going k w first F (walk_at d ins shelves left) done p) (b : Seen) (ins' : List Input) (shelves' : List Shelf) (left' : Budget) where
  module _ (e : GatherFault) (t : Gathers k.settings first w (walk_at d ins shelves left) (walk_at b ins' shelves' left') (Err e)) (z : Seen) where
    window_stops : Writes k.journal k.outs p.lines p.pieces b z (Ok tt) → Ended k z (fault_from e)
    window_stops = ended_gathering laws k w first F d ins shelves left g.reached p g.files b ins' shelves' left' e t z

    window_breaks : (f : Failed) → Writes k.journal k.outs p.lines p.pieces b z (Err f) → Ended k z fault.Write
    window_breaks = ended_closing laws k w first F d ins shelves left g.reached b t.uses p g.files z

    pub window_ends : (told : RunFault) → FlushedFor k.journal k.outs p b z (fault_from e) told → Ended k z told
    window_ends told (inl x) = subst (Ended k z) (sym x.1) (window_stops x.0)
    window_ends told (inr x) = subst (Ended k z) (sym x.2) (window_breaks x.0 x.1)

  module _ (t : Gathers k.settings first w (walk_at d ins shelves left) (walk_at b ins' shelves' left') (Ok tt)) where
    pub window_refused : Ended k b fault.Memory
    window_refused = ended_unwritten laws k w first F d ins shelves left g.reached b t.uses p g.files t.uses.counts

    but_b : IsTrue k.seen.told → WholesButOn p k.settings k.origin b k.journal k.outs g.reached.entry_list
    but_b told = but_on laws k w first F d ins shelves left g.reached b t.uses p g.files told

    pub files_b : AreFiles b k.journal k.outs
    files_b = files_then laws k w first F d ins shelves left done p g b t.uses

    module _ (next : IsNextWindow k.settings shelves (Some w)) (E : Contents) (events : List Event) (outs : List Out) (h : Handles w shelves' F E events outs) where
      pub window_early : w < 2 ^ 43 → AreEarly outs
      window_early lt = early_here laws k w first F d ins shelves left g.reached b ins' shelves' left' t next E events outs h (omega (arith, lt))

      pub window_room : w < 2 ^ 43 → (done.frames + frame_count events < 2 ^ 64) × (done.entries + length events < 2 ^ 64)
      window_room lt = room_on laws k w first F d ins shelves left g.reached b ins' shelves' left' t next E events outs h p but_b b p done done g.frames g.entries lt

      pub window_unwritten : (z : Seen) (p' : Pending) (e : RunFault) → Publishes (file_slots k.journal k.outs) (lines_from (unwrap_or F.state.tables.clock 0) events) (map (sent_of F.settings events) outs) (paged_at b p) (paged_at z p') (Err e) → Ended k z e
      window_unwritten z p' e x = ended_publishing laws k w first F d ins shelves left g.reached b ins' shelves' left' t next E events outs h p but_b z p' e x

      pub window_done : (z : Seen) (p' : Pending) (done' : Done) → Publishes (file_slots k.journal k.outs) (lines_from (unwrap_or F.state.tables.clock 0) events) (map (sent_of F.settings events) outs) (paged_at b p) (paged_at z p') (Ok tt) →
          done'.frames ≡ done.frames + frame_count events → done'.entries ≡ done.entries + length events → Going k (w + 1) first E (walk_at z ins' shelves' left') done' p'
      window_done z p' done' x frames entries = going_on laws k w first F d ins shelves left g.reached b ins' shelves' left' t next E events outs h p but_b z p' done done' g.frames g.entries x frames entries

-- what was gathered, by the code's own configuration and its own list of shelves
module _ (k : Task) (w first : ℕ) (F : Contents) (d : Seen) (ins : List Input) (shelves : List Shelf) (left : Budget) (b : Seen) (ins' : List Input) (new : List Shelf) (left' : Budget) (c : Settings) (c_is : c ≡ k.settings) (l : List Shelf) (l_is : l ≡ shelves) where
  pub gathers_as : (result : Result (Unit {0}) GatherFault) → Gathers c first w (walk_at d ins l left) (walk_at b ins' new left') result → Gathers k.settings first w (walk_at d ins shelves left) (walk_at b ins' new left') result
  gathers_as result t =
      subst (λ x. Gathers k.settings first w (walk_at d ins x left) (walk_at b ins' new left') result) l_is (subst (λ s. Gathers s first w (walk_at d ins l left) (walk_at b ins' new left') result) c_is t)

  pub gathered_by : (done : Done) (p : Pending) → Going k w first F (walk_at d ins shelves left) done p → IsNextWindow k.settings shelves (Some w) → (n : ℕ) → n ≡ length shelves →
      Gathers c first w (walk_at d ins l left) (walk_at b ins' new left') (Ok tt) → Gathered k w first F (walk_at b ins' (take n (new ++ drop (length new) shelves)) left') done p
  gathered_by done p g next n n_is t =
      let t' = gathers_as (Ok tt) t in
      subst (λ x. Gathered k w first F (walk_at b ins' x left') done p) (sym (front_of new (drop (length new) shelves) n (n_is ∙ sym t'.count))) (record {
        seen = d;
        ins = ins;
        shelves = shelves;
        left = left;
        going = g;
        next = next;
        gathers = t';
      })

-- ---- behind the gathering

pub settings_kept : (w : ℕ) (shelves : List Shelf) (F E : Contents) (events : List Event) (outs : List Out) → Handles w shelves F E events outs → E.settings ≡ F.settings
settings_kept w shelves F E events outs h = ap (λ (G : Contents). G.settings) h.after ∙ h.frames.grown.settings ∙ h.ticks.settings

pub clock_there : (w : ℕ) (shelves : List Shelf) (F E : Contents) (events : List Event) (outs : List Out) → Handles w shelves F E events outs → E.state.tables.clock ≡ Some w
clock_there w shelves F E events outs h = ap (λ (G : Contents). G.state.tables.clock) h.after ∙ h.frames.grown.clock ∙ h.ticks.at_clock

module _ (laws : Laws) (k : Task) (w first : ℕ) (F : Contents) (b : Seen) (ins : List Input) (shelves : List Shelf) (left : Budget) (done : Done) (p : Pending) (x : Gathered k w first F (walk_at b ins shelves left) done p) where
  abbrev old : Reached k w first F (walk_at x.seen x.ins x.shelves x.left)
  old = x.going.reached

  pub gathered_ports : length shelves ≡ length k.ins
  gathered_ports = x.gathers.count ∙ old.walked.count ∙ same_length k.ins x.ins old.walked.slots

  pub gathered_files : AreFiles b k.journal k.outs
  gathered_files = files_b laws k w first F x.seen x.ins x.shelves x.left done p x.going b ins shelves left x.gathers

  pub gathered_refused : Ended k b fault.Memory
  gathered_refused = window_refused laws k w first F x.seen x.ins x.shelves x.left done p x.going b ins shelves left x.gathers

  module _ (E : Contents) (events : List Event) (outs : List Out) (h : Handles w shelves F E events outs) where
    pub gathered_early : w < 2 ^ 43 → AreEarly outs
    gathered_early = window_early laws k w first F x.seen x.ins x.shelves x.left done p x.going b ins shelves left x.gathers x.next E events outs h

    pub gathered_room : w < 2 ^ 43 → (done.frames + frame_count events < 2 ^ 64) × (done.entries + length events < 2 ^ 64)
    gathered_room = window_room laws k w first F x.seen x.ins x.shelves x.left done p x.going b ins shelves left x.gathers x.next E events outs h

    module _ (z : Seen) (p' : Pending) (at : ℕ) (at_is : at ≡ unwrap_or F.state.tables.clock 0) (c : Settings) (c_is : c ≡ E.settings) where
      as_is : (result : Result (Unit {0}) RunFault) → Publishes (file_slots k.journal k.outs) (lines_from at events) (map (sent_of c events) outs) (paged_at b p) (paged_at z p') result →
          Publishes (file_slots k.journal k.outs) (lines_from (unwrap_or F.state.tables.clock 0) events) (map (sent_of F.settings events) outs) (paged_at b p) (paged_at z p') result
      as_is result h' =
          subst (λ s. Publishes (file_slots k.journal k.outs) (lines_from (unwrap_or F.state.tables.clock 0) events) (map (sent_of s events) outs) (paged_at b p) (paged_at z p') result) (c_is ∙ settings_kept w shelves F E events outs h)
          (subst (λ (t : ℕ). Publishes (file_slots k.journal k.outs) (lines_from t events) (map (sent_of c events) outs) (paged_at b p) (paged_at z p') result) at_is h')

      pub gathered_unwritten : (e : RunFault) → Publishes (file_slots k.journal k.outs) (lines_from at events) (map (sent_of c events) outs) (paged_at b p) (paged_at z p') (Err e) → Ended k z e
      gathered_unwritten e y = window_unwritten laws k w first F x.seen x.ins x.shelves x.left done p x.going b ins shelves left x.gathers x.next E events outs h z p' e (as_is (Err e) y)

      pub gathered_done : (done' : Done) → Publishes (file_slots k.journal k.outs) (lines_from at events) (map (sent_of c events) outs) (paged_at b p) (paged_at z p') (Ok tt) →
          done'.frames ≡ done.frames + frame_count events → done'.entries ≡ done.entries + length events → Going k (w + 1) first E (walk_at z ins shelves left) done' p'
      gathered_done done' y frames entries = window_done laws k w first F x.seen x.ins x.shelves x.left done p x.going b ins shelves left x.gathers x.next E events outs h z p' done' (as_is (Ok tt) y) frames entries
