-- What stands behind each packet of a stream, and at its end.
use Rattle.std.proofs.Common.{◌≡◌, ℕ, zero, suc, ◌+◌, ◌<◌, ◌≤◌, ◌^◌, inl, inr, List, [], ◌∷◌, ◌++◌, length, length-append, Option, Some, None, Ok, Err, IsTrue, refl, sym, ◌∙◌, subst, arith}
use Rattle.std.specs.Prelude.{Result}
use Rattle.fab_base.specs.Ending.{End, Said, end_by, CountsRead, Either, Uses, IsSaid}
use Rattle.fab_base.specs.Seen.{Seen, Only, Nothing, Touches}
use Rattle.fab_base.proofs.EndingLemmas.{uses_none, uses_read, uses_then, uses_wider}
use Rattle.fab_base.proofs.SeenLemmas.{keeps_touches}
use Rattle.fab_config.specs.Settings.{Settings}
use Rattle.pcap_file.specs.declared.Budget.{Budget}
use Rattle.pcapng_file.specs.declared.NgRecord.{NgRecord}
use Rattle.pcapng_file.specs.declared.fault.NgError.{NgError}
use Rattle.pcapng_file.specs.declared.fault.NgError.TheVariants as errors
use Rattle.pcapng_file.specs.declared.fault.NgLimit.TheVariants as ng_limits
use Rattle.pcapng_file.specs.File.{before_all, ng_end, IsPacketKept}
use Rattle.pcapng_file.proofs.StreamedLemmas.{parts_long, streamed_none, streamed_stays, streamed_more, streamed_end, streamed_stops}
use Rattle.pcapng_file.specs.Stream.{Streaming, streaming, StreamStand, StreamReads, Streamed, Stops, stream_stand}
use Rattle.fab_policy.specs.Journal.{Journal}
use Rattle.run_files.specs.Faults.{IsUnwritten}
use Rattle.run_files.proofs.OutputLemmas.{stays_named, same_name}
use Rattle.fab_windows.specs.declared.Done.{Done}
use Rattle.fab_windows.proofs.UsesLemmas.{writing_touches}
use Rattle.pcap_file.specs.declared.fault.LimitKind.TheVariants as limits
use Rattle.fab_live.specs.declared.live.Live.{Live}
use Rattle.fab_live.specs.declared.fault.LiveFault.{LiveFault}
use Rattle.fab_live.specs.declared.fault.LiveFault.TheVariants as fault
use Rattle.fab_live.specs.Files.{LiveSlots, LiveNames, live_end}
use Rattle.fab_live.specs.Ready.{HoldLiveOn, LeavesPacket, Running, nothing_of_live}
use Rattle.fab_live.specs.Live.{AreGiven, AreOpen, StartsFiles, LeftWhole, LeftBroken, LiveEnds, LiveFinished, LiveRuns, Begins, BeginsWithin, fault_of}
use Rattle.fab_windows.proofs.SofarLemmas.{entries_are_few}
use Rattle.fab_live.proofs.NothingLemmas.{left_broken_is, left_whole_is}
use Rattle.fab_live.proofs.RunningLemmas.{left_whole, entries_there}
use Rattle.fab_live.proofs.WriteLemmas.{moved, in_before, written_before, live_stays}

-- ---- the loop

pub record Looping (c : Settings) (f : LiveSlots) (stream : ℕ) (budget : Budget) (start : Seen) (l : Live) (p : Streaming) (d : Seen) : Type 0 where
  pub given : AreOpen start stream f
  pub packets : List NgRecord
  pub entry_list : Journal
  pub running : Running c (nothing_of_live c (length f.outs)) f packets entry_list l d
  pub streamed : Streamed stream start budget (stream_stand p d) packets
  pub uses : Uses (Only (start.name stream)) (LiveNames start f) Said start d

-- what was read, by another name of its answer
pub read_as : (stream : ℕ) (a b : StreamStand) (o o' : Option NgRecord) → o ≡ o' → StreamReads stream a b (Ok o) → StreamReads stream a b (Ok o')
read_as stream a b o o' e r = subst (λ (x : Option NgRecord). StreamReads stream a b (Ok x)) e r

-- a packet takes a frame of those that are left
pub read_less : (stream : ℕ) (p p' : Streaming) (d d' : Seen) (x : NgRecord) → StreamReads stream (stream_stand p d) (stream_stand p' d') (Ok (Some x)) → suc p'.here.left.frames ≤ p.here.left.frames
read_less stream p p' d d' x r = let e = r.frames in omega (arith, e)

-- slots of what is handed in, once files were written and the stream was read
module _ (f : LiveSlots) (stream : ℕ) (start : Seen) (given : AreOpen start stream f) where
  abbrev Stream : List ℕ → Type 0
  Stream = Only (start.name stream)

  abbrev Ours : List ℕ → Type 0
  Ours = LiveNames start f

  module _ (d : Seen) {end : End} (u : Uses Stream Ours end start d) where
    pub named : d.name stream ≡ start.name stream
    named = (u.touches.slots stream (inl given.input)).name

    pub input_there : IsTrue (d.input stream)
    input_there = subst IsTrue (sym (u.touches.slots stream (inl given.input)).input) given.input

    pub names_back : (m : List ℕ) → LiveNames d f m → LiveNames start f m
    names_back m (inl n) = inl (in_before f Ours (Either Stream Ours) start d given.files u.touches m n)
    names_back m (inr w) = inr (written_before f Ours (Either Stream Ours) start d given.files u.touches m w)

    pub apart_there : ¬ LiveNames d f (d.name stream)
    apart_there n = given.apart (subst Ours named (names_back (d.name stream) n))

  module _ (d : Seen) (u : Uses Stream Ours Said start d) (d' : Seen) where
    -- reading on
    pub reads_on : {end : End} → Uses (Only (d.name stream)) Nothing end d d' → Uses Stream Ours end start d'
    reads_on {end} more = uses_then Stream Ours end start d d' u (uses_wider (Only (d.name stream)) Nothing Stream Ours (λ m e. e ∙ named d u) (λ m none. absurd none) end d d' more)

    -- writing on
    pub writes_on : {end : End} → Uses Nothing (LiveNames d f) end d d' → Uses Stream Ours end start d'
    writes_on {end} more = uses_then Stream Ours end start d d' u (uses_wider Nothing (LiveNames d f) Stream Ours (λ m none. absurd none) (names_back d u) end d d' more)

pub looping_input : (c : Settings) (f : LiveSlots) (stream : ℕ) (budget : Budget) (start : Seen) (l : Live) (p : Streaming) (d : Seen) → Looping c f stream budget start l p d → IsTrue (d.input stream)
looping_input c f stream budget start l p d g = input_there f stream start g.given d g.uses

module _ (c : Settings) (f : LiveSlots) (stream : ℕ) (budget : Budget) (start : Seen) (l : Live) (p : Streaming) (d : Seen) (g : Looping c f stream budget start l p d) (p' : Streaming) (d' : Seen) where
  module _ (result : Result (Option NgRecord) NgError) (r : StreamReads stream (stream_stand p d) (stream_stand p' d') result) where
    abbrev O : List ℕ → Type 0
    O = Only (d.name stream)

    k : Touches O O d d'
    k = keeps_touches (d.name stream) d d' r.reads.keeps

    told_d : IsTrue start.told → IsTrue d.told
    told_d told = subst IsTrue (sym g.uses.touches.told) told

    hold' : IsTrue d'.told → HoldLiveOn c (nothing_of_live c (length f.outs)) d' f g.packets g.entry_list
    hold' told =
        let h = g.running.hold (subst IsTrue k.told told) in
        record {
          wholes = record {
            lines_ = moved d' (sym (stays_named O O d d' k f.journal g.running.ready.files.files.journal_)) (r.reads.files (d.name f.journal) ∙ h.wholes.lines_);
            records = λ q lt. moved d' (sym (same_name O O d d' k f.outs g.running.ready.files.files.outs_ q lt)) (r.reads.files _ ∙ h.wholes.records q lt);
          };
          came = λ q lt. moved d' (sym (same_name O O d d' k f.ins g.running.ready.files.ins_ q lt)) (r.reads.files _ ∙ h.came q lt);
        }

    pub running_read : Running c (nothing_of_live c (length f.outs)) f g.packets g.entry_list l d'
    running_read =
        let y = g.running.ready in
        record {
          ready = record {
            files = live_stays f O O d d' y.files k;
            width = y.width;
            few = y.few;
            count = y.count;
            events = y.events;
            outs = y.outs;
            range = y.range;
            clock = y.clock;
            size = y.size;
            nothing = y.nothing;
            pages = y.pages;
          };
          goes = g.running.goes;
          faces = g.running.faces;
          span = g.running.span;
          kept = g.running.kept;
          first = g.running.first;
          frames = g.running.frames;
          entries = g.running.entries;
          hold = hold';
        }

    pub uses' : (end : End) → CountsRead (d.name stream) end d d' → Uses (Only (start.name stream)) (LiveNames start f) end start d'
    uses' end counts = reads_on f stream start g.given d g.uses d' (uses_read (d.name stream) end d d' r.reads counts)

    abbrev left : LeftWhole c d' f g.packets
    left = left_whole_is c d' f g.packets (left_whole c (nothing_of_live c (length f.outs)) f g.packets g.entry_list l d' running_read)

    pub begins_here : IsTrue start.told → Begins g.packets (start.left stream)
    begins_here told = (p.here.section, p.held ++ d.left stream, g.streamed.begins told)

  -- ---- the stream ends

  module _ (limited : budget.bytes < 2 ^ 64) (r : StreamReads stream (stream_stand p d) (stream_stand p' d') (Ok None)) where
    finished : IsTrue start.told → LiveFinished c budget f (start.left stream) d' l.done
    finished told =
        let end = streamed_end stream start d d' budget p p' g.packets g.streamed (told_d (Ok None) r) r told in
        let begun = g.streamed.begins told in
        let short = parts_long begun.0 before_all g.packets (start.left stream) p.here.section (p.held ++ d.left stream) begun.1 in
        let few = entries_there entries_are_few c (nothing_of_live c (length f.outs)) f g.packets g.entry_list l d g.running in
        let told_entries = g.running.entries in
        record {
          packets = g.packets;
          file = end.0;
          bytes = end.1.0;
          count = end.1.1;
          left = left (Ok None) r;
          frames = g.running.frames;
          entries = omega (arith, end.1.0, short, few, told_entries, limited);
          counted = g.running.goes.running.counted;
        }

    pub ended : LiveRuns c budget stream f start d' (Ok l.done)
    ended = record {
      uses = uses' (Ok None) r Said (r.counts, r.reads.writes);
      ends = finished;
    }

  -- ---- it can't be read on

  module _ (e : NgError) (r : StreamReads stream (stream_stand p d) (stream_stand p' d') (Err e)) where
    stopped : IsSaid (ng_end e) → IsTrue start.told → Stops g.packets (start.left stream) budget e
    stopped said told = streamed_stops stream start d d' budget p p' g.packets g.streamed (told_d (Err e) r) e r told said

    -- which fault it is
    ends_by : (x : LiveFault) → (IsTrue start.told → LiveEnds c budget f (start.left stream) d' (Err x)) → CountsRead (d.name stream) (live_end x) d d' → LiveRuns c budget stream f start d' (Err x)
    ends_by x ends counts = record { uses = uses' (Err e) r (live_end x) counts; ends = ends }

  pub failed : (e : NgError) → StreamReads stream (stream_stand p d) (stream_stand p' d') (Err e) → LiveRuns c budget stream f start d' (Err (fault_of e))
  failed (errors.Fault at why) r =
      let e = errors.Fault at why in
      ends_by e r (fault.Block at why) (λ told. (g.packets, stopped e r tt told, left (Err e) r)) (r.counts, r.reads.writes)
  failed (errors.Limit ng_limits.Bytes) r =
      let e = errors.Limit ng_limits.Bytes in
      ends_by e r (fault.Limit limits.Bytes) (λ told. (g.packets, stopped e r tt told, left (Err e) r)) (r.counts, r.reads.writes)
  failed (errors.Limit ng_limits.Frames) r =
      let e = errors.Limit ng_limits.Frames in
      ends_by e r (fault.Limit limits.Frames) (λ told. (g.packets, stopped e r tt told, left (Err e) r)) (r.counts, r.reads.writes)
  failed (errors.Read bad) r =
      let e = errors.Read bad in
      ends_by e r fault.Read (λ told. (g.packets, begins_here (Err e) r told, left (Err e) r)) (r.cause g.streamed.fresh bad refl, r.reads.writes)
  failed errors.Memory r = ends_by errors.Memory r fault.Memory (λ told. (g.packets, begins_here (Err errors.Memory) r told, inl (left (Err errors.Memory) r))) (r.counts, r.reads.writes)

  -- ---- a packet

  module _ (x : NgRecord) (r : StreamReads stream (stream_stand p d) (stream_stand p' d') (Ok (Some x))) where
    there : Uses (Only (start.name stream)) (LiveNames start f) Said start d'
    there = uses' (Ok (Some x)) r Said (r.counts, r.reads.writes)

    pub kept_here : IsPacketKept x
    kept_here = r.kept.0

    pub running_here : Running c (nothing_of_live c (length f.outs)) f g.packets g.entry_list l d'
    running_here = running_read (Ok (Some x)) r

    streamed' : Streamed stream start budget (stream_stand p' d') (g.packets ++ x ∷ [])
    streamed' = streamed_more stream start d d' budget p p' g.packets g.streamed (told_d (Ok (Some x)) r) x r

    pub room : budget.frames < 2 ^ 64 → l.done.frames + 1 < 2 ^ 64
    room few = let a = streamed'.frames in let b = g.running.frames in let e = length-append g.packets (x ∷ []) in omega (arith, a, b, e, few)

    begins_there : IsTrue start.told → Begins (g.packets ++ x ∷ []) (start.left stream)
    begins_there told = (p'.here.section, p'.held ++ d'.left stream, streamed'.begins told)

    begins_within : IsTrue start.told → BeginsWithin (g.packets ++ x ∷ []) (start.left stream) budget
    begins_within told = record {
      section = p'.here.section;
      rest = p'.held ++ d'.left stream;
      begins = streamed'.begins told;
      bytes = let e = streamed'.bytes in let there = streamed'.place told in omega (arith, e, there);
      frames = let e = streamed'.frames in omega (arith, e);
    }

    pub no_port : length f.outs ≤ x.face → LiveRuns c budget stream f start d' (Err (fault.Port x.face))
    no_port le = record {
      uses = there;
      ends = λ told. (g.packets, (begins_here (Ok (Some x)) r told, x, begins_within told, refl, le), left (Ok (Some x)) r);
    }

    refused_ends : x.face < length f.outs → (d'' : Seen) (e : LiveFault) → LeavesPacket c (nothing_of_live c (length f.outs)) f g.packets x d'' e → IsTrue start.told → LiveEnds c budget f (start.left stream) d'' (Err e)
    refused_ends face d'' fault.Write left told = (g.packets ++ x ∷ [], begins_there told, left_broken_is c d'' f (g.packets ++ x ∷ []) left)
    refused_ends face d'' fault.Memory left told = (g.packets, begins_here (Ok (Some x)) r told, inl (left_whole_is c d'' f g.packets left))
    refused_ends face d'' (fault.Limit limits.Span) left told = (g.packets, (begins_here (Ok (Some x)) r told, x, begins_within told, face, left.1), left_whole_is c d'' f g.packets left.0)
    refused_ends face d'' (fault.Limit limits.Bytes) left told = absurd left
    refused_ends face d'' (fault.Limit limits.Frames) left told = absurd left
    refused_ends face d'' (fault.Block at why) left told = absurd left
    refused_ends lt d'' (fault.Port face) left told = absurd left
    refused_ends face d'' fault.Read left told = absurd left

    pub refused : x.face < length f.outs → (d'' : Seen) (e : LiveFault) → Uses Nothing (LiveNames d' f) (live_end e) d' d'' → LeavesPacket c (nothing_of_live c (length f.outs)) f g.packets x d'' e → LiveRuns c budget stream f start d'' (Err e)
    refused face d'' e u left = record {
      uses = writes_on f stream start g.given d' there d'' u;
      ends = refused_ends face d'' e left;
    }

    pub looping_on : (d'' : Seen) (l' : Live) (K : Journal) → Uses Nothing (LiveNames d' f) Said d' d'' → Running c (nothing_of_live c (length f.outs)) f (g.packets ++ x ∷ []) K l' d''
        → Looping c f stream budget start l' p' d''
    looping_on d'' l' K u R =
        let same = (writing_touches (LiveNames d' f) d' d'' u).left stream (input_there f stream start g.given d' there) (apart_there f stream start g.given d' there) in
        record {
          given = g.given;
          packets = g.packets ++ x ∷ [];
          entry_list = K;
          running = R;
          streamed = streamed_stays stream start d' d'' budget p' (g.packets ++ x ∷ []) streamed' (λ told. same);
          uses = writes_on f stream start g.given d' there d'' u;
        }

-- ---- before the first packet

module _ (c : Settings) (f : LiveSlots) (stream : ℕ) (budget : Budget) (start : Seen) (open_ : AreOpen start stream f) where
  pub looping_first : (l : Live) (p : Streaming) → p ≡ streaming [] 0 before_all budget → Running c (nothing_of_live c (length f.outs)) f [] [] l start → Looping c f stream budget start l p start
  looping_first l p is R = record {
    given = open_;
    packets = [];
    entry_list = [];
    running = R;
    streamed = streamed_none stream start budget p is;
    uses = uses_none (Only (start.name stream)) (LiveNames start f) start;
  }

module _ (c : Settings) (f : LiveSlots) (stream : ℕ) (budget : Budget) (start : Seen) (given : AreGiven start stream f) (d : Seen) where
  abbrev Stream' : List ℕ → Type 0
  Stream' = Only (start.name stream)

  abbrev Ours' : List ℕ → Type 0
  Ours' = LiveNames start f

  given_open : AreOpen start stream f
  given_open = record { input = given.input; apart = given.apart; files = given.files }

  module _ {end : End} (u : Uses Nothing Ours' end start d) where
    pub wider : Uses Stream' Ours' end start d
    wider = uses_wider Nothing Ours' Stream' Ours' (λ m none. absurd none) (λ m x. x) end start d u

    pub open_on : AreOpen d stream f
    open_on = record {
      input = input_there f stream start given_open d wider;
      apart = apart_there f stream start given_open d wider;
      files = live_stays f Ours' Ours' start d given.files (writing_touches Ours' start d u);
    }

  begun_ends : (e : LiveFault) → IsUnwritten (live_end e) → LeftBroken c d f [] → IsTrue start.told → LiveEnds c budget f (start.left stream) d (Err e)
  begun_ends fault.Write is broken told = ([], (before_all, start.left stream, (zero, (refl, refl, refl))), broken)
  begun_ends fault.Memory is broken told = ([], (before_all, start.left stream, (zero, (refl, refl, refl))), inr (refl, broken))
  begun_ends (fault.Block at why) is broken told = absurd is
  begun_ends (fault.Limit kind) is broken told = absurd is
  begun_ends (fault.Port face) is broken told = absurd is
  begun_ends fault.Read is broken told = absurd is

  -- the heads couldn't be written
  pub begun_broken : {T : Type 0} (e : LiveFault) → StartsFiles {T = T} f start d (Err e) → LiveRuns c budget stream f start d (Err e)
  begun_broken {T} e s =
      let broken = s.broken c in
      record {
        uses = wider s.uses;
        ends = begun_ends e broken.0 broken.1;
      }

  -- the heads were written, and then it ran
  module _ {T : Type 0} (t : T) (s : StartsFiles {T = T} f start d (Ok t)) (new : Seen) (result : Result Done LiveFault) (runs : LiveRuns c budget stream f d new result) where
    back : (m : List ℕ) → LiveNames d f m → LiveNames start f m
    back = names_back f stream start given_open d (wider s.uses)

    same_name_on : d.name stream ≡ start.name stream
    same_name_on = named f stream start given_open d (wider s.uses)

    pub runs_behind : LiveRuns c budget stream f start new result
    runs_behind = record {
      uses =
          uses_then Stream' Ours' (end_by live_end result) start d new (wider s.uses)
          (uses_wider (Only (d.name stream)) (LiveNames d f) Stream' Ours' (λ m e. e ∙ same_name_on) back (end_by live_end result) d new runs.uses);
      ends = λ told.
          subst (λ (l : List ℕ). LiveEnds c budget f l new result) ((writing_touches Ours' start d s.uses).left stream given.input given.apart)
          (runs.ends (subst IsTrue (sym s.uses.touches.told) told));
    }
