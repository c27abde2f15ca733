-- How a check goes on from window to window, and ends.
use Rattle.std.proofs.Common.{◌≡◌, ℕ, suc, ◌+◌, ◌^◌, ◌<◌, ◌≤◌, Bool, false, List, [], ◌∷◌, ◌++◌, length, take, drop, slice_get, Option, Some, None, IfSome, IsTrue, Result, Ok, Err, IfErr, OnOk, MatchResult, refl, sym, ap, ◌∙◌, subst, arith}
use Rattle.std.specs.List.{All}
use Rattle.std.specs.Prelude.{unwrap_or}
use Rattle.std.proofs.lemmas.List.{append-nil}
use Rattle.fab_base.specs.Ending.{End, Uses}
use Rattle.fab_base.specs.Seen.{Seen, Touches, Nothing}
use Rattle.fab_base.proofs.SeenLemmas.{touches_refl, touches_trans, touches_wider}
use Rattle.fab_config.specs.Settings.{Settings}
use Rattle.fab_policy.specs.Growing.{with_more}
use Rattle.fab_policy.specs.Journal.{Journal}
use Rattle.window_records.specs.Keeping.{Splits}
use Rattle.fab_policy.specs.Legal.{left_of, numbered_from, of_port}
use Rattle.window_records.specs.Looks.{Opened, Stop, all_records, records_in}
use Rattle.fab_policy.specs.Standing.{Contents}
use Rattle.fab_states.specs.Runs.{HoldsFrom}
use Rattle.window_records.specs.Looks.{all_kept}
use Rattle.fab_policy.specs.declared.line.Format.{Format}
use Rattle.pcap_file.specs.declared.Budget.{Budget}
use Rattle.pcap_file.specs.declared.Record.{Record}
use Rattle.window_records.specs.declared.shelf.Input.{Input}
use Rattle.window_records.specs.declared.shelf.Shelf.{Shelf}
use Rattle.pcap_file.specs.declared.fault.GatherFault.{GatherFault}
use Rattle.pcap_file.specs.declared.fault.GatherFault.TheVariants as gather_fault
use Rattle.window_records.specs.First.{IsNextWindow, opened_in}
use Rattle.window_records.specs.Gather.{Gathers}
use Rattle.pcap_file.specs.Faults.{IsStopped, gather_end}
use Rattle.fab_base.specs.Slots.{NameIn, slot_at}
use Rattle.window_records.specs.Ports.{AreInputs, Walk, slots_of, walk_at}
use Rattle.window_records.specs.Reads.{IsWhole, batches_of}
use Rattle.window_records.specs.Walked.{Walked}
use Rattle.window_records.proofs.SlotLemmas.{inputs_stay, name_in, same_length}
use Rattle.window_records.proofs.StayLemmas.{LeftStays, left_stays}
use Rattle.window_records.proofs.UsesLemmas.{uses_rose, uses_touches}
use Rattle.window_records.proofs.WalkedLemmas.{next_later, next_soon, ports_on, tells_on, walked_ahead, walked_next, walked_on, walked_splits, walked_stays}
use Rattle.fab_replay.specs.AllOutputs.{IsFirst, OneRose, page_at}
use Rattle.fab_replay.specs.Check.{Task, captures_in, matter_of, slots_in}
use Rattle.fab_replay.specs.CheckFrom.{ChecksFrom, IsFirstStopFrom, NamesRunFrom, SaysFrom, sent_from}
use Rattle.fab_replay.specs.Front.{has_left}
use Rattle.fab_replay.specs.FrontFrom.{AreRightLinesFrom, HoldsFrontsFrom, capture_from, clock_from, expects_tick_from, now_from, text_from}
use Rattle.fab_replay.specs.Laws.{Laws}
use Rattle.fab_replay.specs.Lines.{IsInside, IsOfLine}
use Rattle.fab_replay.specs.Owed.{AreMany, IsOfOutput, IsOwed, ReadsOut, Tells}
use Rattle.fab_replay.specs.Steps.{Advances, AreCounted, IsAlong, IsFound, IsGathered, IsIdle, IsNow, IsReached, Left, Scene}
use Rattle.fab_replay.specs.Windows.{Ended, Ends, Going, HaveLines, IsOf, LeftBy, OfTask, RemainsOf, Stand, check_fault, scene_of, stand_at}
use Rattle.fab_replay.specs.declared.fault.CheckFault.{CheckFault}
use Rattle.fab_replay.specs.declared.fault.CheckFault.TheVariants as fault
use Rattle.fab_replay.specs.declared.lines.Place.{Place}
use Rattle.fab_replay.specs.declared.owed.Owed.{Owed}
use Rattle.fab_replay.specs.declared.windows.Course.{Course}
use Rattle.fab_replay.specs.declared.windows.Written.{Written}
use Rattle.fab_replay.proofs.FrontLemmas.{front_at, front_run}
use Rattle.fab_replay.proofs.LeftLemmas.{left_none, tick_never}
use Rattle.fab_replay.proofs.LeaveLemmas.{all_found, left_line, left_stopped}
use Rattle.fab_replay.proofs.ListLemmas.{rest_none, take_front}
use Rattle.fab_replay.proofs.OwedLemmas.{first_as, owed_stays}
use Rattle.fab_replay.proofs.ReadLemmas.{gathered, length-records, lines_on}
use Rattle.fab_replay.proofs.RemainLemmas.{stays}
use Rattle.fab_replay.proofs.SlotsLemmas.{in_back, in_front, inputs_back, inputs_front, left_back, left_front, rose_back, rose_front, rose_in_all}

length-opened : (d : Seen) (ins : List Input) → length (opened_in d ins) ≡ length ins
length-opened d [] = refl
length-opened d (i ∷ ins) = ap suc (length-opened d ins)

pub length-scene : (k : Task) → length (scene_of k).records ≡ length k.start.ins
length-scene k = length-records (captures_in k) ∙ length-opened k.start.seen k.start.ins

-- ---- the lines so far

pub right_lines : (x : Scene) (J : Journal) (F : Contents) (p : Place) → IsReached x J F p → AreRightLinesFrom x.settings x.from x.records x.bytes J
right_lines x J F p h = record {
  rest = drop p.at x.bytes;
  lines = h.behind.lines ∙ ap (λ (f : Format). text_from f (now_from x.from) J ++ drop p.at x.bytes) h.behind.format;
  front = h.front;
}

-- a fault of a line ends the check
pub says_found : (k : Task) (F : Contents) (e : CheckFault) → IsFound (scene_of k) e → SaysFrom k.settings k.from k.start.left (matter_of k) F (Err e)
says_found k F (fault.Line n y) h = h
says_found k F fault.Read h = tt
says_found k F fault.Memory h = tt
says_found k F _ h = absurd h

pub not_read : (e : CheckFault) → IsOfLine e → e ≡ fault.Read → ⊥
not_read (fault.Line n y) h is = cc
not_read fault.Memory h is = cc
not_read _ h is = absurd h

-- the cause of a fault of reading, if this is one
abbrev pub Caused : Task → Seen → CheckFault → Type 0
Caused k d e = e ≡ fault.Read → OneRose (slots_in k) k.start.seen d

pub ended_line : (k : Task) (d : Seen) (e : CheckFault) → Touches Nothing (OfTask k) k.start.seen d → Caused k d e → (IsTrue k.start.seen.told → IsFound (scene_of k) e) → Ended k d e
ended_line k d e touches cause found F = record {
  touches = touches;
  says = λ told. says_found k F e (found told);
  read = λ is. cause (let same : e ≡ fault.Read = cc in same);
}

-- memory is refused before anything is read
pub ended_refused : (k : Task) → Ended k k.start.seen fault.Memory
ended_refused k F = record { touches = touches_refl Nothing (OfTask k) k.start.seen; says = λ told. tt; read = λ is. absurd (cc) }

-- ---- a stop

module _ (k : Task) (d : Seen) (touches : Touches Nothing (OfTask k) k.start.seen d) where
  pub ended_gather : (e : GatherFault) → (IsTrue k.start.seen.told → IsStopped e → IsFirstStopFrom k.settings k.from k.start.left (matter_of k) e) → (e ≡ gather_fault.Read → OneRose (slots_in k) k.start.seen d) →
      Ended k d (check_fault e)
  ended_gather (gather_fault.Capture port at w) stops cause F = record { touches = touches; says = λ told. stops told tt; read = λ is. absurd (cc) }
  ended_gather (gather_fault.Limit kind) stops cause F = record { touches = touches; says = λ told. stops told tt; read = λ is. absurd (cc) }
  ended_gather gather_fault.Read stops cause F = record { touches = touches; says = λ told. tt; read = λ is. cause refl }
  ended_gather gather_fault.Memory stops cause F = record { touches = touches; says = λ told. tt; read = λ is. absurd (cc) }

-- the frames of each port are those that were taken
holds_taken : (c : Settings) (w p : ℕ) (firsts : List ℕ) (opened : List Opened) (taken : List (List Record)) (J : Journal) → length firsts ≡ length opened → Splits c w opened taken →
    ((q port first : ℕ) (records : List Record) → slice_get (all_records opened) q ≡ Some records → port ≡ p + q → first ≡ unwrap_or (slice_get firsts q) 0 → of_port port J ≡ numbered_from first (take (length (of_port port J)) records)) →
    ((q port : ℕ) (records : List Record) → slice_get taken q ≡ Some records → port ≡ p + q → length (of_port port J) ≡ length records) → HoldsFrom J p firsts taken
holds_taken c w p [] [] [] J same s front lines = tt
holds_taken c w p (first ∷ firsts) [] [] J same s front lines = absurd (omega (arith, same))
holds_taken c w p firsts [] (records ∷ taken) J same s front lines = absurd s
holds_taken c w p firsts (o ∷ opened) [] J same s front lines = absurd s
holds_taken c w p [] (o ∷ opened) (records ∷ taken) J same s front lines = absurd (omega (arith, same))
holds_taken c w p (first ∷ firsts) (o ∷ opened) (records ∷ taken) J same s front lines =
    let zero_is : p ≡ p + 0 = omega arith in (
      front 0 p first (records_in o) refl zero_is refl
          ∙ ap (λ (n : ℕ). numbered_from first (take n (records_in o))) (lines 0 p records refl zero_is)
          ∙ ap (λ l. numbered_from first (take (length records) l)) s.0.1
          ∙ ap (numbered_from first) (take_front records s.0.0),
      holds_taken c w (p + 1) firsts opened taken J (let e : length firsts ≡ length opened = omega (arith, same) in e) s.1
          (λ q port n rs at e is. front (suc q) port n rs at (let f : port ≡ p + suc q = omega (arith, e) in f) is)
          (λ q port rs at e. lines (suc q) port rs at (let f : port ≡ p + suc q = omega (arith, e) in f)),
    )

-- the same window, by the code's own configuration
pub gathers_as : {c s : Settings} {first w : ℕ} {old new : Walk} {r : Result (Unit {0}) GatherFault} → c ≡ s → Gathers c first w old new r → Gathers s first w old new r
gathers_as {c} {s} {first} {w} {old} {new} {r} e t = subst (λ x. Gathers x first w old new r) e t

-- the same shelves, as a slice
pub going_on : {k : Task} {w : ℕ} {F : Contents} {course : Course} {d : Seen} {ins : List Input} {left : Budget} {old new : List Shelf} → new ≡ old → Going k w (stand_at F course (walk_at d ins old left)) → Going k w (stand_at F course (walk_at d ins new left))
going_on {k} {w} {F} {course} {d} {ins} {left} {old} {new} e g = subst (λ l. Going k w (stand_at F course (walk_at d ins l left))) (sym e) g

-- A check stands before its next window, behind all earlier ones from some on.
pub record AtWindow (k : Task) (v w : ℕ) (here : Stand) : Type 0 where
  pub going : Going k w here
  pub next : IsNextWindow k.settings here.walk.shelves (Some w)
  pub later : v ≤ w
  pub early : w < 2 ^ 43
  pub order : IfSome here.fabric.state.tables.clock (λ t. t ≤ w)

-- ---- between windows

module _ (laws : Laws) (k : Task) (w : ℕ) (here : Stand) (g : Going k w here) where
  abbrev F : Contents
  F = here.fabric

  abbrev first : ℕ
  first = here.course.first

  abbrev p : Place
  p = here.course.place

  abbrev o : Owed
  o = here.course.owed

  abbrev d : Seen
  d = here.walk.seen

  abbrev ins : List Input
  ins = here.walk.ins

  abbrev shelves : List Shelf
  shelves = here.walk.shelves

  abbrev left : Budget
  left = here.walk.left

  abbrev xs : List ℕ
  xs = slots_of k.start.ins

  told_on : IsTrue k.start.seen.told → IsTrue d.told
  told_on = tells_on k.settings k.start w first g.taken here.walk g.walked

  all_inputs : AreInputs d (slots_in k)
  all_inputs = inputs_stay Nothing (OfTask k) k.start.seen d (slots_in k) g.touches g.inputs

  pub inputs_now : AreInputs d (slots_of ins)
  inputs_now = subst (AreInputs d) (sym g.walked.slots) (inputs_front xs k.outs d all_inputs)

  pub ports_now : length ins ≡ length k.start.ins
  ports_now = ports_on k.settings k.start w first g.taken here.walk g.walked

  name_now : (m : List ℕ) → NameIn d (slots_of ins) m → OfTask k m
  name_now m h = name_in Nothing (OfTask k) k.start.seen d (slots_in k) g.touches g.inputs m (in_front xs k.outs d m (subst (λ s. NameIn d s m) g.walked.slots h))

  abbrev Ins : List ℕ → Type 0
  Ins = NameIn d (slots_of ins)

  touches_on : (b : Seen) {end : End} → Uses Ins Nothing end d b → Touches Nothing (OfTask k) k.start.seen b
  touches_on b u = touches_trans Nothing (OfTask k) k.start.seen d b g.touches (touches_wider Nothing Ins Nothing (OfTask k) d b (λ m h. h) name_now (uses_touches Ins d b u))

  taken_width : length g.taken ≡ length ins
  taken_width = (laws.read_below k.settings w (captures_in k) g.taken ins shelves d g.walked.read).0

  opened_width : length ins ≡ length (captures_in k)
  opened_width = ports_now ∙ sym (length-opened k.start.seen k.start.ins)

  -- a journal of all records that were taken
  module _ (J : Journal) (told : IsTrue k.start.seen.told) (fronts : HoldsFrontsFrom k.from.firsts J (scene_of k).records) (own : HaveLines J g.taken) where
    splits_here : Splits k.settings w (captures_in k) g.taken
    splits_here = walked_splits k.settings k.start w first g.taken here.walk g.walked told

    taken_held : HoldsFrom J 1 k.from.firsts g.taken
    taken_held =
        holds_taken k.settings w 1 k.from.firsts (captures_in k) g.taken J (g.firsts ∙ sym (length-opened k.start.seen k.start.ins)) splits_here
        (front_at k.from.firsts (scene_of k).records J fronts)
        (λ q port records at is. let f : q + 1 ≡ port = omega (arith, is) in subst (λ (n : ℕ). length (of_port n J) ≡ length records) f (own q records at))

    kept_held : (s : Stop) → s.window ≡ Some w → HoldsFrom J 1 k.from.firsts (all_kept k.settings s (all_records (captures_in k)))
    kept_held s at = subst (HoldsFrom J 1 k.from.firsts) (sym (laws.keeps_just k.settings w s (captures_in k) g.taken at splits_here)) taken_held

  -- ---- its next window

  pub next_here : (c : Settings) → c ≡ F.settings → (v : Option ℕ) → IsNextWindow c shelves v → IsNextWindow k.settings shelves v
  next_here c e v h = subst (λ s. IsNextWindow s shelves v) (e ∙ g.settings_) h

  pub window_here : (c : Settings) → c ≡ F.settings → (v : ℕ) → IsNextWindow c shelves (Some v) → AtWindow k w v here
  window_here c e v h =
      let next = next_here c e (Some v) h in
      record {
        going = record {
          inputs = g.inputs;
          ports = g.ports;
          firsts = g.firsts;
          outputs = g.outputs;
          many = g.many;
          touches = g.touches;
          taken = g.taken;
          walked = walked_next k.settings k.start w first g.taken here.walk g.walked v next;
          settings_ = g.settings_;
          count_ = g.count_;
          clock = g.clock;
          idle = g.idle;
          inside = g.inside;
          stood = g.stood;
          lines = g.lines;
        };
        next = next;
        later = next_later k.settings k.start w first g.taken here.walk g.walked v next;
        early = next_soon k.settings k.start w first g.taken here.walk g.walked v next;
        order = g.clock v next;
      }

  -- ---- gathering it

  module _ (new : Walk) where
    abbrev b : Seen
    b = new.seen

    abbrev ins' : List Input
    ins' = new.ins

    abbrev shelves' : List Shelf
    shelves' = new.shelves

    abbrev left' : Budget
    left' = new.left

    ended_gathering : (e : GatherFault) → Gathers k.settings first w here.walk new (Err e) → Ended k b (check_fault e)
    ended_gathering e t =
        ended_gather k b (touches_on b t.uses) e
        (λ told stopped.
        let s = t.stops (told_on told) stopped in
        let J = (g.lines told).0 in
        let h = (g.lines told).1 in
        let own = (g.lines told).2 in
        record {
          at = s.0;
          is = g.walked.stops told ∙ s.1;
          says = s.2;
          entry_list = J;
          before = right_lines (scene_of k) J F p h;
          all = kept_held J told h.front.frames own s.0 s.3;
        })
        (λ is.
        let rose : OneRose (slots_of ins) d b = uses_rose Ins d b t.uses (ap gather_end is) in
        rose_in_all (OfTask k) k.start.seen d g.touches (slots_in k) g.inputs b (rose_front xs k.outs d b (subst (λ s. OneRose s d b) g.walked.slots rose)))

    -- what the fabric stands for where that ends the check
    left_gathering : (e : GatherFault) → Gathers k.settings first w here.walk new (Err e) → LeftBy k F (check_fault e)
    left_gathering e t = left_stopped k g.stood.0 F p g.stood.1 e (λ told stopped.
        let s = t.stops (told_on told) stopped in
        record { at = s.0; is = g.walked.stops told ∙ s.1; all = kept_held g.stood.0 told (g.stood.1.begun told).frames (g.stood.2 told) s.0 s.3 })

    pub ends_gathering : (e : GatherFault) → Gathers k.settings first w here.walk new (Err e) → Ends k b F (Err (check_fault e))
    ends_gathering e t = record { checks = ended_gathering e t F; leaves = left_gathering e t }

    module _ (t : Gathers k.settings first w here.walk new (Ok tt)) (next : IsNextWindow k.settings shelves (Some w)) where
      abbrev taken' : List (List Record)
      taken' = with_more g.taken (batches_of shelves')

      same_ins : length ins' ≡ length ins
      same_ins = same_length ins ins' t.slots

      walked_now : Walked k.settings k.start (w + 1) first taken' new
      walked_now = walked_on k.settings k.start w first g.taken here.walk g.walked new t

      width_on : length g.taken ≡ length shelves'
      width_on = taken_width ∙ sym g.walked.count ∙ sym t.count

      told_b : IsTrue k.start.seen.told → IsTrue b.told
      told_b = tells_on k.settings k.start (w + 1) first taken' new walked_now

      gathered_for : (told : IsTrue k.start.seen.told) (J : Journal) → HaveLines J g.taken → IsGathered (scene_of k) w J shelves'
      gathered_for told J own =
          let moved = laws.moves k.settings w here.walk new g.walked.count same_ins t.count next t.took t.ready t.spent in
          let splits = walked_splits k.settings k.start (w + 1) first taken' new walked_now told in
          let ahead = walked_ahead k.settings k.start (w + 1) first taken' new walked_now laws.looks_ahead told in
          gathered k.settings w (captures_in k) g.taken ins' shelves' b width_on walked_now.read J k.from (scene_of k).stop k.bytes ahead (t.count ∙ g.walked.count ∙ opened_width) splits moved.batches moved.some own

      gathered_now : (told : IsTrue k.start.seen.told) → IsGathered (scene_of k) w (g.lines told).0 shelves'
      gathered_now told = gathered_for told (g.lines told).0 (g.lines told).2

      left_now : IsTrue k.start.seen.told → IsGathered (scene_of k) w g.stood.0 shelves'
      left_now told = gathered_for told g.stood.0 (g.stood.2 told)

      -- ---- and checking its lines

      touches_b : Touches Nothing (OfTask k) k.start.seen b
      touches_b = touches_on b t.uses

      inputs_b : AreInputs b (slots_in k)
      inputs_b = inputs_stay Nothing (OfTask k) k.start.seen b (slots_in k) touches_b g.inputs

      pub outputs_b : AreInputs b k.outs
      outputs_b = inputs_back xs k.outs b inputs_b

      -- the outputs, of which nothing was fetched
      owed_now : (told : IsTrue k.start.seen.told) → IsOwed k.settings (length (scene_of k).records) k.from k.start.seen b k.outs (g.lines told).0 o
      owed_now told =
          owed_stays k.settings (length (scene_of k).records) k.from k.start.seen d k.outs (g.lines told).0 o g.many (g.lines told).3 b
          (left_back xs k.outs d all_inputs b (subst (λ s. Touches Nothing (NameIn d s) d b) g.walked.slots (uses_touches Ins d b t.uses)))

      module _ (G : Contents) (to : Course) (e : Seen) where
        abbrev q : Place
        q = to.place

        abbrev o' : Owed
        o' = to.owed

        -- what the lines of the window leave
        abbrev pub Lines : Result (Unit {0}) CheckFault → Type 0
        Lines r = MatchResult r
            (λ _. (told : IsTrue k.start.seen.told) → (K : Journal) × IsReached (scene_of k) K G q × AreCounted K shelves' × IsOwed k.settings (length (scene_of k).records) k.from k.start.seen e k.outs K o')
            (λ f. (told : IsTrue k.start.seen.told) → IsFound (scene_of k) f)

        by_result : (r : Result (Unit {0}) CheckFault) →
            ((told : IsTrue k.start.seen.told) → MatchResult r (λ _. (K : Journal) × IsReached (scene_of k) K G q × AreCounted K shelves' × IsOwed k.settings (length (scene_of k).records) k.from k.start.seen e k.outs K o') (λ f. IsFound (scene_of k) f)) → Lines r
        by_result (Ok u) h = h
        by_result (Err f) h = h

        lines_left : (v : Written) → IsOf k v → (r : Result (Unit {0}) CheckFault) →
            (IsTrue b.told → (x : Scene) (J : Journal) (start : Seen) → x.bytes ≡ v.journal.now → IsReached x J F p → IsNow v.firsts.now shelves' x w J → IsOwed x.settings (length x.records) x.from start b v.outs.now J o →
            MatchResult r (λ _. (K : Journal) × IsReached x K G q × AreCounted K shelves' × IsOwed x.settings (length x.records) x.from start e v.outs.now K o') (λ f. IsFound x f)) → Lines r
        lines_left v same r h = by_result r (λ told.
            let l = g.lines told in
            subst (λ s. MatchResult r (λ _. (K : Journal) × IsReached (scene_of k) K G q × AreCounted K shelves' × IsOwed k.settings (length (scene_of k).records) k.from k.start.seen e s K o') (λ f. IsFound (scene_of k) f)) (sym same.outputs)
            (h (told_b told) (scene_of k) l.0 k.start.seen same.journal l.1 (same.firsts, gathered_now told) (subst (λ s. IsOwed k.settings (length (scene_of k).records) k.from k.start.seen b s l.0 o) same.outputs (owed_now told))))

        touches_e : Touches Nothing (NameIn b k.outs) b e → Touches Nothing (OfTask k) k.start.seen e
        touches_e touched =
            touches_trans Nothing (OfTask k) k.start.seen b e touches_b
            (touches_wider Nothing (NameIn b k.outs) Nothing (OfTask k) b e (λ m h. h) (λ m h. name_in Nothing (OfTask k) k.start.seen b (slots_in k) touches_b g.inputs m (in_back xs k.outs b m h)) touched)

        same_e : Touches Nothing (NameIn b k.outs) b e → LeftStays b e ins'
        same_e touched = left_stays b e ins' (subst (λ s. (q : ℕ) → q < length s → e.left (slot_at s q) ≡ b.left (slot_at s q)) (sym walked_now.slots) (left_front xs k.outs b inputs_b e touched))

        -- what the fabric stands for then
        abbrev pub Leave : Result (Unit {0}) CheckFault → Type 0
        Leave r = MatchResult r (λ _. (K : Journal) × IsAlong (scene_of k) k.start.seen.told K G q × (IsTrue k.start.seen.told → AreCounted K shelves')) (λ f. Left (scene_of k) k.start.seen.told G f)

        turn_left : (r : Result (Unit {0}) CheckFault) → Lines r → Leave r → IfErr r (λ f. LeftBy k G f)
        turn_left (Ok u) lines leave = tt
        turn_left (Err f) lines leave = record { remains = leave; all = λ told. all_found k.settings k.from k.start.left (matter_of k) leave.entry_list (scene_of k) f (lines told) }

        walked_e : to.first ≡ first → Touches Nothing (NameIn b k.outs) b e → Walked k.settings k.start (w + 1) to.first taken' (walk_at e ins' shelves' left')
        walked_e same touched =
            subst (λ (f : ℕ). Walked k.settings k.start (w + 1) f taken' (walk_at e ins' shelves' left')) (sym same) (walked_stays k.settings k.start (w + 1) first taken' new walked_now e touched.told (same_e touched))

        -- the next window is a later one
        later_on : to.first ≡ first → Touches Nothing (NameIn b k.outs) b e → (v : ℕ) → IsNextWindow k.settings shelves' (Some v) → w + 1 ≤ v
        later_on same touched v is = next_later k.settings k.start (w + 1) to.first taken' (walk_at e ins' shelves' left') (walked_e same touched) v is

        turn_ends : (r : Result (Unit {0}) CheckFault) → Lines r → Leave r → Touches Nothing (NameIn b k.outs) b e → (r ≡ Err fault.Read → OneRose k.outs b e) → OnOk r (AreMany (length k.outs) o') → OnOk r (IsInside k.bytes q) →
            OnOk r (G.state.tables.clock ≡ Some w) → G.settings ≡ k.settings → G.count ≡ F.count → OnOk r (IsIdle G) → to.first ≡ first →
            MatchResult r (λ _. Going k (w + 1) (stand_at G to (walk_at e ins' shelves' left'))) (λ f. Ends k e G (Err f))
        turn_ends (Ok u) lines leave touched cause many inside clock settings count idle same = record {
          inputs = g.inputs;
          ports = g.ports;
          firsts = g.firsts;
          outputs = g.outputs;
          many = many;
          touches = touches_e touched;
          taken = taken';
          walked = walked_e same touched;
          settings_ = settings;
          count_ = count ∙ g.count_;
          clock = λ v is. subst (λ o. IfSome o (λ n. n ≤ v)) (sym clock) (let le = later_on same touched v is in omega (arith, le));
          idle = idle;
          inside = inside;
          stood = (leave.0, leave.1, λ told. lines_on k.settings w (captures_in k) g.taken ins' shelves' b width_on walked_now.read leave.0 (leave.2 told));
          lines = λ told.
              let l = lines told in
              (l.0, l.1, lines_on k.settings w (captures_in k) g.taken ins' shelves' b width_on walked_now.read l.0 l.2, l.3);
        }
        turn_ends (Err f) lines leave touched cause many inside clock settings count idle same = record {
          checks =
              ended_line k e f (touches_e touched)
              (λ is. rose_in_all (OfTask k) k.start.seen b touches_b (slots_in k) g.inputs e (rose_back xs k.outs b e (cause (ap (λ y. Err y) is))))
              lines
              G;
          leaves = turn_left (Err f) lines leave;
        }

        -- the same by the clauses of the code, which speak of its own journal and outputs
        pub turned : (v : Written) → IsOf k v → (r : Result (Unit {0}) CheckFault) →
            (IsTrue b.told → (x : Scene) (J : Journal) (start : Seen) → x.bytes ≡ v.journal.now → IsReached x J F p → IsNow v.firsts.now shelves' x w J → IsOwed x.settings (length x.records) x.from start b v.outs.now J o →
            MatchResult r (λ _. (K : Journal) × IsReached x K G q × AreCounted K shelves' × IsOwed x.settings (length x.records) x.from start e v.outs.now K o') (λ f. IsFound x f)) →
            ((x : Scene) (told : Bool) (J : Journal) → x.bytes ≡ v.journal.now → IsAlong x told J F p → (IsTrue told → IsNow v.firsts.now shelves' x w J) →
            MatchResult r (λ _. (K : Journal) × IsAlong x told K G q × (IsTrue told → AreCounted K shelves')) (λ f. Left x told G f)) →
            Touches Nothing (NameIn b v.outs.now) b e → (r ≡ Err fault.Read → OneRose v.outs.now b e) → OnOk r (AreMany (length v.outs.now) o') → Advances w F G v.journal.now q r → to.first ≡ first → MatchResult r (λ _. Going k (w + 1) (stand_at G to (walk_at e ins' shelves' left'))) (λ f. Ends k e G (Err f))
        turned v same r checks along touched cause many on same_first =
            let outs_are = sym same.outputs in
            turn_ends r (lines_left v same r checks) (along (scene_of k) k.start.seen.told g.stood.0 same.journal g.stood.1 (λ told. (same.firsts, left_now told)))
            (subst (λ s. Touches Nothing (NameIn b s) b e) outs_are touched)
            (λ is. subst (λ s. OneRose s b e) outs_are (cause is))
            (subst (λ s. OnOk r (AreMany (length s) o')) outs_are many)
            (subst (λ s. OnOk r (IsInside s q)) (sym same.journal) on.inside) on.clock_ (on.settings ∙ g.settings_) on.count on.idle same_first

  -- ---- the end of all captures

  module _ (none : IsNextWindow k.settings shelves None) (told : IsTrue k.start.seen.told) where
    abbrev J : Journal
    J = (g.lines told).0

    all : (g.taken ≡ all_records (captures_in k)) × All IsWhole (captures_in k)
    all = laws.read_all k.settings w (captures_in k) g.taken ins shelves d (told_on told) g.walked.read none

    none_for : (K : Journal) → HaveLines K g.taken → (q : ℕ) (records : List Record) → slice_get (scene_of k).records q ≡ Some records → left_of (q + 1) records K ≡ []
    none_for K own q records at =
        let n = own q records (ap (λ l. slice_get l q) all.0 ∙ at) in
        rest_none records (length (of_port (q + 1) K)) (omega (arith, n))

    none_of : (q : ℕ) (records : List Record) → slice_get (scene_of k).records q ≡ Some records → left_of (q + 1) records J ≡ []
    none_of = none_for J (g.lines told).2

    no_stop : (scene_of k).stop ≡ None
    no_stop = g.walked.stops told ∙ laws.none_left k.settings first d ins shelves left none

    nothing_for : (K : Journal) → HaveLines K g.taken → (has_left k.settings (scene_of k).records K ≡ false) × (expects_tick_from k.settings k.from (scene_of k).records K ≡ false)
    nothing_for K own =
        tick_never k.settings (clock_from k.settings k.from K) (scene_of k).records K
        (left_none k.settings 1 (scene_of k).records K (λ q port records at e. let f : q + 1 ≡ port = omega (arith, e) in ap (λ (n : ℕ). left_of n records K) (sym f) ∙ none_for K own q records at))

    nothing_left : (has_left k.settings (scene_of k).records J ≡ false) × (expects_tick_from k.settings k.from (scene_of k).records J ≡ false)
    nothing_left = nothing_for J (g.lines told).2

    -- no tick is expected behind what the fabric stands for, which has all frames
    left_ends : expects_tick_from k.settings k.from (scene_of k).records g.stood.0 ≡ false
    left_ends = (nothing_for g.stood.0 (g.stood.2 told)).1

    left_all : HoldsFrom g.stood.0 1 k.from.firsts (scene_of k).records
    left_all = subst (HoldsFrom g.stood.0 1 k.from.firsts) all.0 (taken_held g.stood.0 told (g.stood.1.begun told).frames (g.stood.2 told))

    names : drop p.at k.bytes ≡ [] → NamesRunFrom k.settings k.from k.start.left (matter_of k) J
    names end =
        let h = (g.lines told).1 in
        record {
          ranged = h.front.ranged;
          lines = h.behind.lines ∙ ap (λ l. text_from p.format (now_from k.from) J ++ l) end ∙ append-nil (text_from p.format (now_from k.from) J) ∙ ap (λ (f : Format). text_from f (now_from k.from) J) h.behind.format;
          run = front_run k.settings k.from (scene_of k).records J h.front (g.firsts ∙ sym (length-scene k)) none_of;
          none = no_stop;
          whole = all.1;
        }

    -- what the outputs are against the captures that the journal sends
    outputs_first : (e : Seen) (r : Result (Unit {0}) CheckFault) → ReadsOut k.outs d e o r → (first : Option (ℕ × ℕ)) →
        ((found wanted : ℕ → List ℕ) → Tells (length k.outs) found wanted r → IsFirst first (length k.outs) found wanted) → IsFirst first (length k.outs) (matter_of k).found (sent_from k.settings k.from (matter_of k) J)
    outputs_first e r read first tells =
        let i = (g.lines told).3 in
        let found = (matter_of k).found in
        let wanted = λ (q : ℕ). i.before q ++ page_at o.pages.items q in
        first_as first (length k.outs) found wanted (sent_from k.settings k.from (matter_of k) J)
        (λ q lt. sym (i.next q lt) ∙ ap (λ (n : ℕ). capture_from k.settings n k.from (q + 1) J) (length-records (captures_in k)))
        (tells found wanted (read.tells (told_on told) found i.before i.read))

  -- ---- the end of the journal

  -- no line is behind the last frame
  abbrev pub NoneBehind : Type 0
  NoneBehind = (x : Scene) (J : Journal) (E : Contents) → x.bytes ≡ k.bytes → x.stop ≡ None → IsReached x J E p → has_left x.settings x.records J ≡ false → expects_tick_from x.settings x.from x.records J ≡ false → drop p.at k.bytes ≡ []

  ended_behind : IsNextWindow k.settings shelves None → (e : CheckFault) → IsOfLine e →
      ((x : Scene) (J : Journal) (E : Contents) → x.bytes ≡ k.bytes → x.stop ≡ None → IsReached x J E p → has_left x.settings x.records J ≡ false → expects_tick_from x.settings x.from x.records J ≡ false → IsFound x e) → Ended k d e
  ended_behind none e only found =
      ended_line k d e g.touches (λ is. absurd (not_read e only is)) (λ told. let n = nothing_left none told in found (scene_of k) (g.lines told).0 F refl (no_stop none told) (g.lines told).1 n.0 n.1)

  pub ends_behind : IsNextWindow k.settings shelves None → (e : CheckFault) → IsOfLine e →
      ((x : Scene) (J : Journal) (E : Contents) → x.bytes ≡ k.bytes → x.stop ≡ None → IsReached x J E p → has_left x.settings x.records J ≡ false → expects_tick_from x.settings x.from x.records J ≡ false → IsFound x e) →
      ((x : Scene) (told : Bool) (J : Journal) (E : Contents) → x.bytes ≡ k.bytes → IsAlong x told J E p → (IsTrue told → expects_tick_from x.settings x.from x.records J ≡ false) → Left x told E e) → Ends k d F (Err e)
  ends_behind none e only found along = record {
    checks = ended_behind none e only found F;
    leaves = left_line k F e only (along (scene_of k) k.start.seen.told g.stood.0 F refl g.stood.1 (left_ends none));
  }

  -- what the fabric stands for where an output differs, and where the check accepts
  left_out : IsNextWindow k.settings shelves None → (e : CheckFault) → IsOfOutput e → LeftBy k F e
  left_out none (fault.Output port at) only =
      record { remains = stays (scene_of k) k.start.seen.told g.stood.0 F p g.stood.1 (Err (fault.Output port at)) refl (λ told. tt); all = λ told. left_all none told }
  left_out none fault.Read only = record { remains = stays (scene_of k) k.start.seen.told g.stood.0 F p g.stood.1 (Err fault.Read) refl (λ told. tt); all = λ told. tt }
  left_out none _ only = absurd only

  left_well : RemainsOf k F (Ok p.entries)
  left_well = record { remains = stays (scene_of k) k.start.seen.told g.stood.0 F p g.stood.1 (Ok p.entries) (g.stood.1.behind.entries, refl) (λ told. tt); all = λ told. tt }

  pub outputs_now : AreInputs d k.outs
  outputs_now = inputs_back xs k.outs d all_inputs

  module _ (none : IsNextWindow k.settings shelves None) (ends : NoneBehind) (e : Seen) where
    end_now : (told : IsTrue k.start.seen.told) → drop p.at k.bytes ≡ []
    end_now told = let n = nothing_left none told in ends (scene_of k) (g.lines told).0 F refl (no_stop none told) (g.lines told).1 n.0 n.1

    touches_out : Touches Nothing (NameIn d k.outs) d e → Touches Nothing (OfTask k) k.start.seen e
    touches_out t =
        touches_trans Nothing (OfTask k) k.start.seen d e g.touches
        (touches_wider Nothing (NameIn d k.outs) Nothing (OfTask k) d e (λ m h. h) (λ m h. name_in Nothing (OfTask k) k.start.seen d (slots_in k) g.touches g.inputs m (in_back xs k.outs d m h)) t)

    -- an output differs, or can't be read
    ended_out : (f : CheckFault) → ReadsOut k.outs d e o (Err f) → Ended k e f
    ended_out (fault.Output port at) r E = record {
      touches = touches_out r.touches;
      says = λ told. record {
        entry_list = (g.lines told).0;
        names = names none told (end_now told);
        first = outputs_first none told e (Err (fault.Output port at)) r (Some (port, at)) (λ found wanted h. h);
      };
      read = λ is. absurd (cc);
    }
    ended_out fault.Read r E = record {
      touches = touches_out r.touches;
      says = λ told. tt;
      read = λ is. rose_in_all (OfTask k) k.start.seen d g.touches (slots_in k) g.inputs e (rose_back xs k.outs d e (r.cause refl));
    }
    ended_out _ r E = absurd r.only

    ended_well : ReadsOut k.outs d e o (Ok tt) → ChecksFrom k e F (Ok p.entries)
    ended_well r = record {
      touches = touches_out r.touches;
      says = λ told. record {
        legal = record {
          entry_list = (g.lines told).0;
          names = names none told (end_now told);
          outputs = outputs_first none told e (Ok tt) r None (λ found wanted h. h);
          count = (g.lines told).1.behind.entries;
        };
        stands = (g.lines told).1.stands;
      };
      read = λ is. absurd (cc);
    }

    pub ends_out : (f : CheckFault) → ReadsOut k.outs d e o (Err f) → Ends k e F (Err f)
    ends_out f r = record { checks = ended_out f r F; leaves = left_out none f r.only }

    pub ends_well : ReadsOut k.outs d e o (Ok tt) → Ends k e F (Ok p.entries)
    ends_well r = record { checks = ended_well r; leaves = left_well }
