-- One window after another: how a turn ends, and what stands after it.
use Rattle.std.proofs.Common.{◌≡◌, ◌≢◌, ℕ, ◌≤◌, ◌⊎◌, inl, inr, List, Some, IsTrue, Result, Ok, Err, refl, sym, ap, ◌∙◌, subst, arith}
use Rattle.fab_base.specs.Ending.{End, Said, Read, Write, Memory, NoFaults, IsSaid, RoseIn, Uses}
use Rattle.fab_base.specs.Seen.{Seen, Touches, Nothing, Rose}
use Rattle.fab_base.specs.declared.values.Failed.{Failed}
use Rattle.fab_base.proofs.SeenLemmas.{rose_later, touches_trans, touches_wider}
use Rattle.fab_policy.specs.Journal.{Journal}
use Rattle.window_records.specs.Keeping.{Splits}
use Rattle.window_records.specs.Looks.{Stop}
use Rattle.fab_policy.specs.Standing.{Contents}
use Rattle.pcap_file.specs.declared.Budget.{Budget}
use Rattle.window_records.specs.declared.shelf.Input.{Input}
use Rattle.window_records.specs.declared.shelf.Shelf.{Shelf}
use Rattle.run_files.specs.declared.fault.RunFault.{RunFault}
use Rattle.run_files.specs.declared.fault.RunFault.TheVariants as fault
use Rattle.pcap_file.specs.declared.fault.GatherFault.{GatherFault}
use Rattle.pcap_file.specs.declared.fault.GatherFault.TheVariants as gather
use Rattle.window_records.specs.Port.{ending}
use Rattle.pcap_file.specs.Faults as gathering
use Rattle.pcap_file.specs.Faults.{gather_end}
use Rattle.run_files.specs.Faults.{fault_from, run_end, IsUnwritten}
use Rattle.fab_base.proofs.EndingLemmas.{none_then}
use Rattle.fab_base.specs.Slots.{NameIn}
use Rattle.window_records.specs.Ports.{slots_of, AreInputs, stop_from, walk_at}
use Rattle.fab_windows.specs.declared.Done.{Done}
use Rattle.fab_windows.specs.Files.{AreFiles, Written, Pending, Writes}
use Rattle.fab_windows.specs.From.{EndsOn, FrontsOn, InterruptedOn, StoppedOn, WholesButOn, WholesOn}
use Rattle.fab_windows.specs.Run.{SparesFaults}
use Rattle.fab_windows.specs.Turns.{Laws, Task, captures_in, start_of, Touched, Reached, Ended}
use Rattle.window_records.specs.Gather.{Gathers}
use Rattle.window_records.proofs.SlotLemmas.{inputs_stay, name_in}
use Rattle.window_records.proofs.UsesLemmas.{uses_rose, uses_touches}
use Rattle.window_records.proofs.StayLemmas.{LeftStays}
use Rattle.window_records.proofs.WalkedLemmas.{walked_ahead, walked_splits, walked_stays}
use Rattle.fab_windows.proofs.EndLemmas.{interrupted, stopped}
use Rattle.fab_windows.proofs.FileLemmas.{files_stay}
use Rattle.fab_windows.proofs.PublishLemmas.{wholes_but_front, flushed_whole, flushed_part}
use Rattle.fab_windows.proofs.StayLemmas.{written_in, but_stays, writing_leaves}
use Rattle.fab_windows.proofs.UsesLemmas.{writing_touches}

-- ---- how a run ends, fault by fault

abbrev Causes : Task → Seen → RunFault → Type 0
Causes k d e =
    (e ≡ fault.Read → RoseIn (NameIn k.seen (slots_of k.ins)) k.seen.read_faults d.read_faults)
    × (e ≡ fault.Write → RoseIn (Written k.seen k.journal k.outs) k.seen.write_faults d.write_faults)
    × SparesFaults (run_end e) k.seen d

error_is : (r : Result Done RunFault) (x y : RunFault) → r ≡ Err x → r ≡ Err y → x ≡ y
error_is r x y h k = cc

pub ended : (k : Task) (d : Seen) (e : RunFault) → Touches (Written k.seen k.journal k.outs) (Touched k) k.seen d →
    (IsTrue k.seen.told → IsSaid (run_end e) → StoppedOn k.settings k.origin k.budget (captures_in k) d k.journal k.outs e) →
    (IsTrue k.seen.told → e ≡ fault.Read → InterruptedOn k.settings k.origin k.budget (captures_in k) (WholesOn k.settings k.origin d k.journal k.outs)) →
    (IsTrue k.seen.told → (e ≡ fault.Write) ⊎ (e ≡ fault.Memory) → InterruptedOn k.settings k.origin k.budget (captures_in k) (FrontsOn k.settings k.origin d k.journal k.outs)) →
    Causes k d e → Ended k d e
ended k d e touches stop read front causes = record {
  touches = touches;
  ends = λ told. by_fault e (stop told) (read told) (front told);
  read = λ is. causes.0 (error_is (Err e) e fault.Read refl is);
  write = λ is. causes.1 (error_is (Err e) e fault.Write refl is);
  counts = causes.2;
}
  where
    by_fault : (f : RunFault) → (IsSaid (run_end f) → StoppedOn k.settings k.origin k.budget (captures_in k) d k.journal k.outs f) →
        (f ≡ fault.Read → InterruptedOn k.settings k.origin k.budget (captures_in k) (WholesOn k.settings k.origin d k.journal k.outs)) →
        ((f ≡ fault.Write) ⊎ (f ≡ fault.Memory) → InterruptedOn k.settings k.origin k.budget (captures_in k) (FrontsOn k.settings k.origin d k.journal k.outs)) →
        EndsOn k.settings k.origin k.budget (captures_in k) d k.journal k.outs (Err f)
    by_fault (fault.Capture port at why) s r f = s tt
    by_fault (fault.Limit kind) s r f = s tt
    by_fault fault.Read s r f = r refl
    by_fault fault.Write s r f = f (inl refl)
    by_fault fault.Memory s r f = f (inr refl)

-- a count that rose before
rose_longer : (a b c : ℕ) → Rose a b → b ≤ c → Rose a c
rose_longer a b c rose le = omega (arith, rose, le)

-- a call that only writes, behind calls that count none
writing_spares : (writes : List ℕ → Type 0) (end : End) (a b c : Seen) → NoFaults a b → Uses Nothing writes end b c → SparesFaults end a c
writing_spares writes Said a b c before u = none_then a b c before u.counts
writing_spares writes Read a b c before u = absurd u.counts.0.1
writing_spares writes Write a b c before u = tt
writing_spares writes Memory a b c before u = none_then a b c before u.counts

-- ---- what a fault of gathering ends a run with

pub stopped_from : (e : GatherFault) → IsSaid (run_end (fault_from e)) → gathering.IsStopped e
stopped_from (gather.Capture port at why) stops = tt
stopped_from (gather.Limit kind) stops = tt
stopped_from gather.Read stops = stops
stopped_from gather.Memory stops = stops

pub read_from : (e : GatherFault) → fault_from e ≡ fault.Read → e ≡ gather.Read
read_from (gather.Capture port at why) is = absurd (cc)
read_from (gather.Limit kind) is = absurd (cc)
read_from gather.Read is = refl
read_from gather.Memory is = absurd (cc)

pub no_write_from : (e : GatherFault) → fault_from e ≢ fault.Write
no_write_from (gather.Capture port at why) is = cc
no_write_from (gather.Limit kind) is = cc
no_write_from gather.Read is = cc
no_write_from gather.Memory is = cc

-- what was gathered between calls that count none
pub gathering_spares : (reads : List ℕ → Type 0) (e : GatherFault) (a b c d : Seen) → NoFaults a b → Uses reads Nothing (gather_end e) b c → NoFaults c d → SparesFaults (run_end (fault_from e)) a d
gathering_spares reads (gather.Capture port at why) a b c d before u after = none_then a b d before (none_then b c d u.counts after)
gathering_spares reads (gather.Limit kind) a b c d before u after = none_then a b d before (none_then b c d u.counts after)
gathering_spares reads gather.Read a b c d before u after = (tt, λ m. after.1 m ∙ u.counts.1 m ∙ before.1 m)
gathering_spares reads gather.Memory a b c d before u after = none_then a b d before (none_then b c d u.counts after)

-- ---- from where a run has come

module _ (laws : Laws) (k : Task) (w first : ℕ) (F : Contents) (d : Seen) (ins : List Input) (shelves : List Shelf) (left : Budget) (r : Reached k w first F (walk_at d ins shelves left)) where
  abbrev Ours : List ℕ → Type 0
  Ours = Written k.seen k.journal k.outs

  told_on : IsTrue k.seen.told → IsTrue d.told
  told_on told = subst IsTrue (sym r.touches.told) told

  pub files_now : AreFiles d k.journal k.outs
  files_now = files_stay Ours (Touched k) k.seen d r.touches k.journal k.outs r.given.files

  pub inputs_now : AreInputs d (slots_of ins)
  inputs_now = subst (AreInputs d) (sym r.walked.slots) (inputs_stay Ours (Touched k) k.seen d (slots_of k.ins) r.touches r.given.inputs)

  name_now : (m : List ℕ) → NameIn d (slots_of ins) m → NameIn k.seen (slots_of k.ins) m
  name_now m h = name_in Ours (Touched k) k.seen d (slots_of k.ins) r.touches r.given.inputs m (subst (λ slots. NameIn d slots m) r.walked.slots h)

  written_now : (m : List ℕ) → Written d k.journal k.outs m → Ours m
  written_now = written_in Ours (Touched k) k.seen d r.touches k.journal k.outs r.given.files

  apart_now : (m : List ℕ) → NameIn d (slots_of ins) m → ¬ Written d k.journal k.outs m
  apart_now m h x = r.given.apart m (name_now m h) (written_now m x)

  splits_here : IsTrue k.seen.told → Splits k.settings w (captures_in k) r.taken
  splits_here = walked_splits k.settings (start_of k) w first r.taken (walk_at d ins shelves left) r.walked

  -- by a fault or want of memory, where the files are told this of the journal
  pub interrupted_here : IsTrue k.seen.told → (Files : Journal → Type 0) → Files r.entry_list → InterruptedOn k.settings k.origin k.budget (captures_in k) Files
  interrupted_here told Files files =
      interrupted k.settings k.origin k.budget (captures_in k) w r.taken r.entry_list (record { ranged = r.sofar.ranged; run = r.sofar.run }) (splits_here told) laws.keeps_before Files
      (walked_ahead k.settings (start_of k) w first r.taken (walk_at d ins shelves left) r.walked laws.looks_ahead told) files

  -- at a look of the next window
  pub stopped_here : IsTrue k.seen.told → (b : Seen) (s : Stop) → stop_from k.settings first d ins shelves left ≡ Some s → s.window ≡ Some w → WholesOn k.settings k.origin b k.journal k.outs r.entry_list → StoppedOn k.settings k.origin k.budget (captures_in k) b k.journal k.outs (fault_from (ending s))
  stopped_here told b s is own files =
      stopped k.settings k.origin k.budget (captures_in k) w r.taken r.entry_list (record { ranged = r.sofar.ranged; run = r.sofar.run }) (splits_here told) laws.keeps_just b k.journal k.outs s (r.walked.stops told ∙ is) own files

  -- ---- reading touches nothing else

  module _ (b : Seen) {end : End} (t : Uses (NameIn d (slots_of ins)) Nothing end d b) where
    touch : Touches Nothing (NameIn d (slots_of ins)) d b
    touch = uses_touches (NameIn d (slots_of ins)) d b t

    pub read_touches : Touches Ours (Touched k) k.seen b
    read_touches = touches_trans Ours (Touched k) k.seen d b r.touches (touches_wider Nothing (NameIn d (slots_of ins)) Ours (Touched k) d b (λ m x. absurd x) (λ m h. inr (name_now m h)) touch)

    written_then : (m : List ℕ) → Written b k.journal k.outs m → Ours m
    written_then m h = written_now m (written_in Nothing (NameIn d (slots_of ins)) d b touch k.journal k.outs files_now m h)

    told_then : IsTrue k.seen.told → IsTrue b.told
    told_then told = subst IsTrue (sym t.touches.told) (told_on told)

    rose_on : RoseIn (NameIn d (slots_of ins)) d.read_faults b.read_faults → RoseIn (NameIn k.seen (slots_of k.ins)) k.seen.read_faults b.read_faults
    rose_on rose = (rose.0, name_now rose.0 rose.1, rose_later _ _ _ (r.touches.reads_rise rose.0) rose.2)

    module _ (p : Pending) (files : IsTrue k.seen.told → WholesButOn p k.settings k.origin d k.journal k.outs r.entry_list) where
      pub but_on : IsTrue k.seen.told → WholesButOn p k.settings k.origin b k.journal k.outs r.entry_list
      but_on told = but_stays (NameIn d (slots_of ins)) d b touch k.journal k.outs files_now p k.settings k.origin r.entry_list (files told)

      front_on : IsTrue k.seen.told → InterruptedOn k.settings k.origin k.budget (captures_in k) (FrontsOn k.settings k.origin b k.journal k.outs)
      front_on told = interrupted_here told (FrontsOn k.settings k.origin b k.journal k.outs) (wholes_but_front p k.settings k.origin b k.journal k.outs r.entry_list (but_on told))

      -- refused memory, before anything of the window is written
      pub ended_unwritten : NoFaults d b → Ended k b fault.Memory
      ended_unwritten same =
          ended k b fault.Memory read_touches (λ told x. absurd x) (λ told x. absurd (cc)) (λ told x. front_on told) (λ x. absurd (cc), λ x. absurd (cc), none_then k.seen d b r.faults same)

      -- then all is written that was still to be
      module _ (z : Seen) where
        then_touches : {last : End} → Uses Nothing (Written b k.journal k.outs) last b z → Touches Ours (Touched k) k.seen z
        then_touches u = touches_trans Ours (Touched k) k.seen b z read_touches (touches_wider (Written b k.journal k.outs) (Written b k.journal k.outs) Ours (Touched k) b z written_then (λ m h. inl (written_then m h)) (writing_touches (Written b k.journal k.outs) b z u))

        wholes_then : Writes k.journal k.outs p.lines p.pieces b z (Ok tt) → IsTrue k.seen.told → WholesOn k.settings k.origin z k.journal k.outs r.entry_list
        wholes_then x told = flushed_whole p k.settings k.origin b z k.journal k.outs r.entry_list (told_then told) (but_on told) x

        fronts_then : {x : Result (Unit {0}) Failed} → Writes k.journal k.outs p.lines p.pieces b z x → IsTrue k.seen.told → InterruptedOn k.settings k.origin k.budget (captures_in k) (FrontsOn k.settings k.origin z k.journal k.outs)
        fronts_then x told = interrupted_here told (FrontsOn k.settings k.origin z k.journal k.outs) (flushed_part p k.settings k.origin b z k.journal k.outs r.entry_list (told_then told) (but_on told) x)

        -- which fails
        pub ended_closing : (f : Failed) → Writes k.journal k.outs p.lines p.pieces b z (Err f) → Ended k z fault.Write
        ended_closing f x =
            ended k z fault.Write (then_touches x.uses) (λ told y. absurd y) (λ told y. absurd (cc)) (λ told y. fronts_then x told)
            (λ y. absurd (cc), λ y. let rose = x.uses.counts.0 in (rose.0, written_then rose.0 rose.1, rose_later _ _ _ (read_touches.writes_rise rose.0) rose.2), tt)

  -- a fault while the window is gathered, behind which all is written that was still to be
  pub ended_gathering : (p : Pending) → (IsTrue k.seen.told → WholesButOn p k.settings k.origin d k.journal k.outs r.entry_list) → (b : Seen) (ins' : List Input) (shelves' : List Shelf) (left' : Budget) (e : GatherFault) →
      Gathers k.settings first w (walk_at d ins shelves left) (walk_at b ins' shelves' left') (Err e) → (z : Seen) → Writes k.journal k.outs p.lines p.pieces b z (Ok tt) → Ended k z (fault_from e)
  ended_gathering p files b ins' shelves' left' e t z x =
      ended k z (fault_from e) (then_touches b t.uses p files z x.uses)
      (λ told stops.
      let s = t.stops (told_on told) (stopped_from e stops) in
      subst (λ f. StoppedOn k.settings k.origin k.budget (captures_in k) z k.journal k.outs (fault_from f)) s.2 (stopped_here told z s.0 s.1 s.3 (wholes_then b t.uses p files z x told)))
      (λ told y. interrupted_here told (WholesOn k.settings k.origin z k.journal k.outs) (wholes_then b t.uses p files z x told))
      (λ told y. fronts_then b t.uses p files z x told) (
        λ y. let rose = rose_on b t.uses (uses_rose (NameIn d (slots_of ins)) d b t.uses (ap gather_end (read_from e y))) in (rose.0, rose.1, rose_longer _ _ _ rose.2 (x.uses.touches.reads_rise _)),
        λ y. absurd (no_write_from e y),
        gathering_spares (NameIn d (slots_of ins)) e k.seen d b z r.faults t.uses x.uses.counts,
      )

  -- ---- writing keeps what is to come

  module _ (z : Seen) {end : End} (t : Uses Nothing (Written d k.journal k.outs) end d z) where
    pub lefts : LeftStays d z ins
    lefts = writing_leaves k.journal k.outs d z ins t inputs_now apart_now

    pub write_touches : Touches Ours (Touched k) k.seen z
    write_touches = touches_trans Ours (Touched k) k.seen d z r.touches (touches_wider (Written d k.journal k.outs) (Written d k.journal k.outs) Ours (Touched k) d z written_now (λ m h. inl (written_now m h)) (writing_touches (Written d k.journal k.outs) d z t))

    abbrev pub reached_on : NoFaults d z → Reached k w first F (walk_at z ins shelves left)
    reached_on none = record {
      given = r.given;
      ports = r.ports;
      outputs = r.outputs;
      limits = r.limits;
      touches = write_touches;
      faults = none_then k.seen d z r.faults none;
      taken = r.taken;
      walked = walked_stays k.settings (start_of k) w first r.taken (walk_at d ins shelves left) r.walked z t.touches.told lefts;
      entry_list = r.entry_list;
      sofar = r.sofar;
      clock = r.clock;
    }

  -- a window that can't be written: beginnings of its journal
  pub ended_writing : (z : Seen) (e : RunFault) → Uses Nothing (Written d k.journal k.outs) (run_end e) d z → IsUnwritten (run_end e) → (IsTrue k.seen.told → FrontsOn k.settings k.origin z k.journal k.outs r.entry_list) → Ended k z e
  ended_writing z e u only front =
      ended k z e (write_touches z u) (λ told x. absurd (not_both (run_end e) only x)) (λ told x. absurd (subst IsUnwritten (ap run_end x) only))
      (λ told x. interrupted_here told (FrontsOn k.settings k.origin z k.journal k.outs) (front told)) (
        λ x. absurd (subst IsUnwritten (ap run_end x) only),
        λ x. let rose = (subst (λ f. Uses Nothing (Written d k.journal k.outs) (run_end f) d z) x u).counts.0 in (rose.0, written_now rose.0 rose.1, rose_later _ _ _ (r.touches.writes_rise rose.0) rose.2),
        writing_spares (Written d k.journal k.outs) (run_end e) k.seen d z r.faults u,
      )
    where
      not_both : (end : End) → IsUnwritten end → IsSaid end → ⊥
      not_both Said u s = u
      not_both Read u s = u
      not_both Write u s = s
      not_both Memory u s = s
