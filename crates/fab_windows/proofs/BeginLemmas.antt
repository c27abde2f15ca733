-- How a run begins, goes on to its next window, and comes to its end.
use Rattle.std.proofs.Common.{◌≡◌, ℕ, suc, ◌+◌, ◌^◌, ◌<◌, ◌≤◌, inl, inr, List, [], ◌∷◌, ◌++◌, length, map, Option, Some, None, IfSome, IsTrue, Result, Ok, Err, refl, sym, ap, ◌∙◌, subst, arith}
use Rattle.std.specs.Prelude.{unwrap_or, Vec}
use Rattle.std.specs.declared.alloc.Global.{Global}
use Rattle.fab_base.specs.Ending.{End, Uses}
use Rattle.fab_base.specs.Seen.{Seen, Touches, Nothing}
use Rattle.fab_base.specs.declared.values.Failed.{Failed}
use Rattle.fab_base.proofs.EndingLemmas.{none_then, none_yet}
use Rattle.fab_base.proofs.SeenLemmas.{rose_later, touches_refl, touches_trans, touches_wider}
use Rattle.fab_config.specs.Settings.{Settings}
use Rattle.fab_policy.specs.Growing.{AllBelow}
use Rattle.window_records.specs.Looks.{stop}
use Rattle.fab_policy.specs.Standing.{Contents}
use Rattle.fab_policy.specs.State.{now_of}
use Rattle.fab_states.proofs.WrittenLemmas.{piece-none, sent-none}
use Rattle.std.proofs.lemmas.List.{append-nil}
use Rattle.pcap_file.specs.declared.Budget.{Budget}
use Rattle.pcap_file.specs.declared.Record.{Record}
use Rattle.window_records.specs.declared.shelf.Input.{Input}
use Rattle.window_records.specs.declared.shelf.Shelf.{Shelf}
use Rattle.pcap_file.specs.declared.fault.GatherFault.{GatherFault}
use Rattle.pcap_file.specs.Faults.{gather_end}
use Rattle.run_files.specs.Faults.{fault_from}
use Rattle.run_files.specs.declared.fault.RunFault.{RunFault}
use Rattle.run_files.specs.declared.fault.RunFault.TheVariants as fault
use Rattle.window_records.specs.First.{IsNextWindow, LooksFirst, opened_in, start_at}
use Rattle.fab_base.specs.Slots.{NameIn}
use Rattle.window_records.specs.Ports.{slots_of, AreInputs, walk_at}
use Rattle.window_records.specs.Walked.{Walked}
use Rattle.window_records.proofs.SlotLemmas.{inputs_stay, name_in}
use Rattle.window_records.proofs.UsesLemmas.{uses_rose, uses_touches}
use Rattle.window_records.proofs.StayLemmas.{LeftStays, opened_stay}
use Rattle.window_records.proofs.WalkedLemmas.{next_later, next_soon, walked_before, walked_first, walked_next}
use Rattle.fab_windows.specs.declared.Done.{Done}
use Rattle.fab_windows.specs.Files.{AreFiles, Written, Pending, Hold, Writes, file_slots}
use Rattle.fab_windows.specs.From.{FrontsOn, IsRunOn, RunsOn, StoppedOn, WholesOn, captures_on, journal_on}
use Rattle.run_files.specs.Pages.{piece_at}
use Rattle.fab_windows.specs.Pages.{IsNothing}
use Rattle.fab_windows.specs.Run.{AreGiven}
use Rattle.fab_windows.specs.Turns.{Laws, Task, captures_in, start_of, Touched, Begun, Reached, Going, Ended, Finishes}
use Rattle.fab_windows.proofs.EndLemmas.{whole_is_front, ends_before, stops_first, finished, no_records, none_run}
use Rattle.fab_windows.proofs.PublishLemmas.{wholes_but_nothing, flushed_whole, flushed_part}
use Rattle.fab_windows.proofs.StayLemmas.{hold_stays, writing_leaves}
use Rattle.fab_windows.proofs.UsesLemmas.{writing_touches}
use Rattle.fab_windows.proofs.TurnLemmas.{stopped_from, read_from, no_write_from, gathering_spares, ended, ended_writing, files_now, reached_on}

-- ---- the heads, and the first looks

module _ (laws : Laws) (k : Task) (given : AreGiven k.seen k.ins k.journal k.outs) where
  abbrev Ours : List ℕ → Type 0
  Ours = Written k.seen k.journal k.outs

  -- refused memory at once
  pub ended_at_once : Ended k k.seen fault.Memory
  ended_at_once =
      ended k k.seen fault.Memory (touches_refl Ours (Touched k) k.seen) (λ told x. absurd x) (λ told x. absurd (cc))
      (λ told x. ends_before k.settings k.origin k.budget (captures_in k) laws.nothing_run (FrontsOn k.settings k.origin k.seen k.journal k.outs) (record {
        before = None;
        begins = tt;
        hold = record {
          lines_ = ([], (given.empty told).0, (journal_on k.origin [], refl));
          records = λ q lt. ([], (given.empty told).1 q lt, (captures_on k.settings k.origin (length k.outs) [] q, refl));
          order = inl (record { lines_ = ([], (given.empty told).0, ([], refl)); records = (given.empty told).1 });
        };
      }))
      (λ x. absurd (cc), λ x. absurd (cc), none_yet k.seen)

  hold_none : IsTrue k.seen.told → Hold k.seen k.journal k.outs [] (λ q. [])
  hold_none told = record { lines_ = (given.empty told).0; records = (given.empty told).1 }

  line_is : journal_on k.origin [] ≡ k.origin.heads.lines
  line_is = ap (λ l. k.origin.heads.lines ++ l) (piece-none (now_of k.origin.state.tables)) ∙ append-nil k.origin.heads.lines

  module _ (pieces : List (List ℕ)) (heads : (q : ℕ) → q < length k.outs → piece_at pieces q ≡ k.origin.heads.records_of q) (a : Seen) where
    records_are : (q : ℕ) → q < length k.outs → captures_on k.settings k.origin (length k.outs) [] q ≡ [] ++ piece_at pieces q
    records_are q lt =
        ap (λ l. k.origin.heads.records_of q ++ l) (sent-none k.settings (length k.outs) (q + 1) k.origin.state) ∙ append-nil (k.origin.heads.records_of q) ∙ sym (heads q lt)

    module _ {r : Result (Unit {0}) Failed} (w : Writes k.journal k.outs k.origin.heads.lines pieces k.seen a r) where
      touches_heads : Touches Ours (Touched k) k.seen a
      touches_heads = touches_wider Ours Ours Ours (Touched k) k.seen a (λ m h. h) (λ m h. inl h) (writing_touches Ours k.seen a w.uses)

      lefts_heads : LeftStays k.seen a k.ins
      lefts_heads = writing_leaves k.journal k.outs k.seen a k.ins w.uses given.inputs given.apart

    -- a head that can't be written
    pub ended_heads : (f : Failed) → Writes k.journal k.outs k.origin.heads.lines pieces k.seen a (Err f) → Ended k a fault.Write
    ended_heads f w =
        ended k a fault.Write (touches_heads w) (λ told x. absurd x) (λ told x. absurd (cc))
        (λ told x. ends_before k.settings k.origin k.budget (captures_in k) laws.nothing_run (FrontsOn k.settings k.origin a k.journal k.outs)
        (record { before = None; begins = tt; hold = w.front told [] (journal_on k.origin []) (λ q. []) (captures_on k.settings k.origin (length k.outs) []) (hold_none told) line_is records_are }))
        (λ x. absurd (cc), λ x. w.uses.counts.0, tt)

    module _ (w : Writes k.journal k.outs k.origin.heads.lines pieces k.seen a (Ok tt)) (d : Seen) (ins : List Input) (left : Budget) where
      opened_then : opened_in a k.ins ≡ captures_in k
      opened_then = opened_stay k.seen a k.ins (lefts_heads w)

      wholes_then : IsTrue k.seen.told → WholesOn k.settings k.origin a k.journal k.outs []
      wholes_then told = w.whole told [] (journal_on k.origin []) (λ q. []) (captures_on k.settings k.origin (length k.outs) []) (hold_none told) line_is records_are

      told_then : IsTrue k.seen.told → IsTrue a.told
      told_then told = subst IsTrue (sym w.uses.touches.told) told

      name_then : (m : List ℕ) → NameIn a (slots_of k.ins) m → NameIn k.seen (slots_of k.ins) m
      name_then m h = name_in Ours Ours k.seen a (slots_of k.ins) (writing_touches Ours k.seen a w.uses) given.inputs m h

      module _ {end : End} (t : Uses (NameIn a (slots_of k.ins)) Nothing end a d) where
        touch : Touches Nothing (NameIn a (slots_of k.ins)) a d
        touch = uses_touches (NameIn a (slots_of k.ins)) a d t

        touches_looks : Touches Ours (Touched k) k.seen d
        touches_looks = touches_trans Ours (Touched k) k.seen a d (touches_heads w) (touches_wider Nothing (NameIn a (slots_of k.ins)) Ours (Touched k) a d (λ m x. absurd x) (λ m h. inr (name_then m h)) touch)

        wholes_looks : IsTrue k.seen.told → WholesOn k.settings k.origin d k.journal k.outs []
        wholes_looks told = hold_stays (NameIn a (slots_of k.ins)) a d touch k.journal k.outs w.files (journal_on k.origin []) (captures_on k.settings k.origin (length k.outs) []) (wholes_then told)

      -- a fault at the first looks
      pub ended_looks : (e : GatherFault) → LooksFirst k.settings (start_at a k.ins k.budget) (start_at d ins left) (Err e) → Ended k d (fault_from e)
      ended_looks e f =
          ended k d (fault_from e) (touches_looks f.uses)
          (λ told stops.
          let s = f.stops (told_then told) (stopped_from e stops) in
          subst (λ x. StoppedOn k.settings k.origin k.budget (captures_in k) d k.journal k.outs (fault_from x)) s.2
          (stops_first k.settings k.origin k.budget (captures_in k) laws.nothing_run d k.journal k.outs s.0 (sym (ap (stop k.settings k.budget.bytes k.budget.frames) opened_then) ∙ s.1) s.3 (wholes_looks f.uses told)))
          (λ told x. ends_before k.settings k.origin k.budget (captures_in k) laws.nothing_run (WholesOn k.settings k.origin d k.journal k.outs) (wholes_looks f.uses told))
          (λ told x. ends_before k.settings k.origin k.budget (captures_in k) laws.nothing_run (FrontsOn k.settings k.origin d k.journal k.outs) (whole_is_front k.settings k.origin d k.journal k.outs [] (wholes_looks f.uses told))) (
            λ x.
                let cause = uses_rose (NameIn a (slots_of k.ins)) a d f.uses (ap gather_end (read_from e x)) in
                (cause.0, name_then cause.0 cause.1, rose_later _ _ _ (w.uses.touches.reads_rise cause.0) cause.2),
            λ x. absurd (no_write_from e x),
            gathering_spares (NameIn a (slots_of k.ins)) e k.seen a d d w.uses.counts f.uses (none_yet d),
          )

      pub begun : (shelves : Vec Shelf Global) → (1 ≤ length k.ins) × (length k.ins ≤ 64) → length k.outs ≡ length k.ins → k.budget.bytes < 2 ^ 64 →
          LooksFirst k.settings (start_at a k.ins k.budget) (start_at d ins left) (Ok shelves) → Begun k (walk_at d ins shelves.items left)
      begun shelves ports outputs limits f = record {
        given = given;
        ports = ports;
        outputs = outputs;
        limits = limits;
        touches = touches_looks f.uses;
        faults = none_then k.seen a d w.uses.counts f.uses.counts;
        walked = λ o next.
            walked_before k.settings k.seen a k.ins k.budget 0 (unwrap_or o 0) (map (λ i. []) k.ins) (walk_at d ins shelves.items left) w.uses.touches.told (lefts_heads w)
            (walked_first k.settings (start_at a k.ins k.budget) (start_at d ins left) shelves f o next);
        whole = wholes_looks f.uses;
      }

-- ---- before the first window

below_none : (c : Settings) (ins : List Input) → AllBelow c 0 (map (λ i. []) ins)
below_none c [] = tt
below_none c (i ∷ ins) = (tt, below_none c ins)

length-none : (ins : List Input) → length (map {B = List Record} (λ i. []) ins) ≡ length ins
length-none [] = refl
length-none (i ∷ ins) = ap suc (length-none ins)

none_none : (ins : List Input) → map (λ (l : List Record). no_records) (map (λ (i : Input). no_records) ins) ≡ map (λ (i : Input). no_records) ins
none_none [] = refl
none_none (i ∷ ins) = ap (λ l. [] ∷ l) (none_none ins)

module _ (laws : Laws) (k : Task) (d : Seen) (ins : List Input) (shelves : List Shelf) (left : Budget) (b : Begun k (walk_at d ins shelves left)) where
  pub going_first : (F : Contents) (o : Option ℕ) (done : Done) (p : Pending) → IsNothing p → F.settings ≡ k.settings → F.count ≡ length k.ins → F.state ≡ k.origin.state → IfSome F.state.tables.clock (λ t. t < 0) → F.events ≡ [] → F.outs ≡ [] →
      IsNextWindow k.settings shelves o → done.frames ≡ 0 → done.entries ≡ 0 → Going k 0 (unwrap_or o 0) F (walk_at d ins shelves left) done p
  going_first F o done p none settings count state early events outs next frames entries = record {
    reached = record {
      given = b.given;
      ports = b.ports;
      outputs = b.outputs;
      limits = b.limits;
      touches = b.touches;
      faults = b.faults;
      taken = map (λ i. []) k.ins;
      walked = b.walked o next;
      entry_list = [];
      sofar = record {
        ranged = tt;
        run = (subst (λ l. IsRunOn k.settings k.origin l []) (none_none k.ins) (none_run k.settings k.origin k.budget (captures_in k) (map (λ i. []) k.ins))).run;
        width = length-none k.ins;
        below = below_none k.settings k.ins;
        state = state;
        settings = settings;
        count = count;
        events = events;
        outs = outs;
      };
      clock = early;
    };
    files = λ told. wholes_but_nothing p k.settings k.origin d k.journal k.outs [] none (b.whole told);
    frames = frames;
    entries = entries;
  }

-- ---- the next window

module _ (laws : Laws) (k : Task) (v w first : ℕ) (F : Contents) (d : Seen) (ins : List Input) (shelves : List Shelf) (left : Budget) (done : Done) (p : Pending)
    (g : Going k v first F (walk_at d ins shelves left) done p) (next : IsNextWindow k.settings shelves (Some w)) where
  abbrev r : Reached k v first F (walk_at d ins shelves left)
  r = g.reached

  pub next_early : w < 2 ^ 43
  next_early = next_soon k.settings (start_of k) v first r.taken (walk_at d ins shelves left) r.walked w next

  walked_then : Walked k.settings (start_of k) w first r.taken (walk_at d ins shelves left)
  walked_then = walked_next k.settings (start_of k) v first r.taken (walk_at d ins shelves left) r.walked w next

  clock_then : (o : Option ℕ) → IfSome o (λ t. t < v) → IfSome o (λ t. t < w)
  clock_then None h = tt
  clock_then (Some t) h = let later = next_later k.settings (start_of k) v first r.taken (walk_at d ins shelves left) r.walked w next in omega (arith, h, later)

  pub going_next : Going k w first F (walk_at d ins shelves left) done p
  going_next = record {
    reached = record {
      given = r.given;
      ports = r.ports;
      outputs = r.outputs;
      limits = r.limits;
      touches = r.touches;
      faults = r.faults;
      taken = r.taken;
      walked = walked_then;
      entry_list = r.entry_list;
      sofar = record {
        ranged = r.sofar.ranged;
        run = r.sofar.run;
        width = r.sofar.width;
        below = (laws.read_below k.settings w (captures_in k) r.taken ins shelves d walked_then.read).1;
        state = r.sofar.state;
        settings = r.sofar.settings;
        count = r.sofar.count;
        events = r.sofar.events;
        outs = r.sofar.outs;
      };
      clock = clock_then F.state.tables.clock r.clock;
    };
    files = g.files;
    frames = g.frames;
    entries = g.entries;
  }

-- ---- the end of all captures

module _ (laws : Laws) (k : Task) (w first : ℕ) (F : Contents) (d : Seen) (ins : List Input) (shelves : List Shelf) (left : Budget) (done : Done) (p : Pending)
    (g : Going k w first F (walk_at d ins shelves left) done p) (next : IsNextWindow k.settings shelves None) (z : Seen) where
  told_end : IsTrue k.seen.told → IsTrue d.told
  told_end told = subst IsTrue (sym g.reached.touches.told) told

  pub files_end : AreFiles d k.journal k.outs
  files_end = files_now laws k w first F d ins shelves left g.reached

  -- what was still to be written is
  ended_well : Writes k.journal k.outs p.lines p.pieces d z (Ok tt) → RunsOn k.settings k.origin (start_at k.seen k.ins k.budget) z (file_slots k.journal k.outs) (Ok done)
  ended_well x =
      let r = reached_on laws k w first F d ins shelves left g.reached z x.uses x.uses.counts in
      record {
        touches = r.touches;
        ends = λ told.
            let read = laws.read_all k.settings w (captures_in k) r.taken ins shelves z (subst IsTrue (sym r.touches.told) told) r.walked.read next in
            finished k.settings k.origin k.budget (captures_in k) r.taken r.entry_list z k.journal k.outs done (record { ranged = r.sofar.ranged; run = r.sofar.run }) (r.walked.stops told ∙ laws.none_left k.settings first z ins shelves left next) read.0 read.1
            (flushed_whole p k.settings k.origin d z k.journal k.outs g.reached.entry_list (told_end told) (g.files told) x) g.frames g.entries;
        read = λ y. absurd (cc);
        write = λ y. absurd (cc);
        counts = r.faults;
      }

  -- or can't be
  ended_broken : (f : Failed) → Writes k.journal k.outs p.lines p.pieces d z (Err f) → Ended k z fault.Write
  ended_broken f x =
      ended_writing laws k w first F d ins shelves left g.reached z fault.Write x.uses tt
      (λ told. flushed_part p k.settings k.origin d z k.journal k.outs g.reached.entry_list (told_end told) (g.files told) x)

  pub ended_by : (r : Result Done RunFault) → Finishes k.journal k.outs p done d z r → RunsOn k.settings k.origin (start_at k.seen k.ins k.budget) z (file_slots k.journal k.outs) r
  ended_by (Ok told) h = subst (λ x. RunsOn k.settings k.origin (start_at k.seen k.ins k.budget) z (file_slots k.journal k.outs) (Ok x)) (sym h.1) (ended_well h.0)
  ended_by (Err e) h = subst (Ended k z) (sym h.2) (ended_broken h.0 h.1)

-- the captures are still open when the heads are written
pub inputs_heads : (d : Seen) (ins : List Input) (journal : ℕ) (outs : List ℕ) → AreGiven d ins journal outs → (b : Seen) {lines : List ℕ} {pieces : List (List ℕ)} {r : Result (Unit {0}) Failed} → Writes journal outs lines pieces d b r → AreInputs b (slots_of ins)
inputs_heads d ins journal outs given b w = inputs_stay (Written d journal outs) (Written d journal outs) d b (slots_of ins) (writing_touches (Written d journal outs) d b w.uses) given.inputs

-- the next window, by the code's own configuration and its own list of shelves
pub next_as : (c d : Settings) (l shelves : List Shelf) (o : Option ℕ) → c ≡ d → l ≡ shelves → IsNextWindow c l o → IsNextWindow d shelves o
next_as c d l shelves o e f h = subst (λ x. IsNextWindow d x o) f (subst (λ s. IsNextWindow s l o) e h)
