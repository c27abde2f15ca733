-- How `live` ends.
use Rattle.std.proofs.Common.{◌≡◌, ℕ, zero, suc, ◌+◌, ◌<◌, ◌≤◌, ◌^◌, ◌*◌, List, [], ◌∷◌, ◌⊎◌, Bool, true, false, length, Some, Ok, Err, IsTrue, refl, sym, ap, ◌∙◌, subst, arith, inl, inr}
use Rattle.std.specs.Prelude.{Result, String, map, get_or, max, ◌==◌, if◌then◌else◌}
use Rattle.std.specs.declared.alloc.Global.{Global}
use Rattle.fab_base.specs.Ending.{End, Said, Read, Memory, NoFaults, IsPrefixOf, Uses, Either}
use Rattle.fab_base.specs.Places.{name_at}
use Rattle.fab_base.specs.Seen.{Seen, SameFiles, Touches, Nothing, Only, OpensIn, Rose}
use Rattle.fab_base.specs.declared.values.Failed.{Failed}
use Rattle.fab_base.proofs.SeenLemmas.{rose_later}
use Rattle.fab_config.specs.Settings.{Settings, is_in_range}
use Rattle.pcap_file.specs.declared.Record.{Record}
use Rattle.pcap_file.specs.declared.Budget.{Budget}
use Rattle.pcap_file.specs.Capture.{IsCapture}
use Rattle.pcapng_file.specs.declared.NgRecord.{NgRecord}
use Rattle.pcapng_file.specs.File.{before_all, AreKept}
use Rattle.pcapng_file.specs.Classic.{Ascend, written, OrderedReadsBack}
use Rattle.pcapng_file.proofs.BackLemmas.{ascend_filter, kept_filter}
use Rattle.fab_policy.specs.Growing.{NothingIsRun}
use Rattle.fab_policy.specs.Journal.{Journal}
use Rattle.fab_policy.specs.Legal.{Run}
use Rattle.fab_base.specs.Counting.{counting}
use Rattle.fab_policy.specs.Outputs.{state_of}
use Rattle.fab_policy.specs.Standing.{Contents}
use Rattle.fab_policy.specs.Text.{text, egress}
use Rattle.fab_policy.proofs.NamedLemmas.{text_names_journal}
use Rattle.fab_base.specs.Slots.{name_of, NameIn}
use Rattle.fab_windows.specs.Files.{InOrder, file_bytes, captures, text_so_far, captures_so_far}
use Rattle.fab_windows.specs.declared.Done.{Done}
use Rattle.fab_live.specs.Arriving.{arrived, of_face, port_records, records_of}
use Rattle.fab_live.specs.Files.{LiveSlots, LiveNames, AreLive}
use Rattle.fab_live.specs.Live.{AreGiven, HoldLive, HoldSome, IsLiveRun, LeftWhole, LeftBroken, LiveFinished, LiveRuns, Begins, IsFaulty, IsNoPort, IsPast}
use Rattle.fab_live.specs.declared.fault.LiveFault.{LiveFault}
use Rattle.fab_live.specs.declared.fault.LiveFault.TheVariants as fault
use Rattle.fab_replay.proofs.OneLemmas.{same_frames}
use Rattle.run_files.specs.Names.{Among}
use Rattle.run_files.specs.Opening.{AreEmptyOutputs}
use Rattle.fab_base.proofs.EndingLemmas.{none_then, uses_refused, uses_then, uses_wider, rose_only, opens_in_uses}
use Rattle.run_files.proofs.NameLemmas.{rose_since, length-counted, counted_among}
use Rattle.run_files.proofs.OpenLemmas.{there, slots_count, are_outputs, up_to_rose}
use Rattle.fabric_tool.specs.Command.{LiveWords, Live, AllKnown, is_live, live_of, live_count, came_at, sent_at, by_port}
use Rattle.fabric_tool.specs.Inputs.{HasConfig, AreCaptures, LIMITS}
use Rattle.fabric_tool.specs.Left.{AreUnwritten, LegalIsSafe}
use Rattle.fabric_tool.specs.Living.{came_on, HoldsSession, HoldsSessionFronts, HasSession, HasLived, HasHalt, HasHalted, HasLiveFront, IsBegun, IsLiveRefused}
use Rattle.fabric_tool.specs.Ending.{CountsOf}
use Rattle.fabric_tool.specs.Ends.{Holds, KeepsOthers}
use Rattle.fabric_tool.specs.Opening.{RecordedOpened, HasWidth, lived_by}
use Rattle.fabric_tool.specs.Preparing.{IsNew, IsLivePrepared}
use Rattle.fabric_tool.specs.Reading.{ConfigRead}
use Rattle.fabric_tool.specs.declared.live.Recorded.{Recorded}
use Rattle.fabric_tool.specs.declared.outcome.Outcome.{Outcome}
use Rattle.fabric_tool.specs.declared.outcome.Outcome.TheVariants as ends
use Rattle.fabric_tool.proofs.AmongLemmas.{none_among}
use Rattle.fabric_tool.proofs.LiveWordLemmas.{both, outputs_split, among_came, among_sent, live_names, came_once, sent_once, came_sent, came_first, sent_first, stream_apart}
use Rattle.fabric_tool.proofs.PartLemmas.{empty_fronts, unwritten}
use Rattle.fabric_tool.proofs.ReadLemmas.{config_refused}
use Rattle.fabric_tool.proofs.UseLemmas.{used_files, used_told, used_counts}
use Rattle.fabric_tool.proofs.RanLemmas.{AreNamed, named_still, named_at, in_order_as, held, held_fronts}

-- ---- what came is read back

-- each is taken at the greatest moment so far, so they are in order, and keep what they keep
arrived_ascend : (g : ℕ) (v : List NgRecord) → Ascend g (arrived g v)
arrived_ascend g [] = tt
arrived_ascend g (r ∷ v) = (omega arith, arrived_ascend (max g r.moment) v)

arrived_kept : (g : ℕ) (v : List NgRecord) → g < 2 ^ 32 * 1000 → AreKept v → AreKept (arrived g v)
arrived_kept g [] lt k = tt
arrived_kept g (r ∷ v) lt k =
    let at = k.0.moment in
    (record { moment = omega arith; stored = k.0.stored; original = k.0.original; whole = k.0.whole }, arrived_kept (max g r.moment) v (omega arith) k.1)

-- what came on a port is a capture of the port's records
came_back : OrderedReadsBack → (packets : List NgRecord) → AreKept packets → (q : ℕ) → IsCapture written (port_records (arrived 0 packets) q) (came_on packets q)
came_back back packets kept q =
    back (of_face q (arrived 0 packets)) (kept_filter (λ r. r.face == q) (arrived 0 packets) (arrived_kept 0 packets (omega arith) kept))
    (ascend_filter (λ r. r.face == q) 0 (arrived 0 packets) (arrived_ascend 0 packets))

all_back : OrderedReadsBack → (packets : List NgRecord) → AreKept packets → (d : Seen) (names : List (List ℕ)) (k : ℕ) → map (λ n. d.file n) names ≡ map (λ l. Some l) (map (came_on packets) (counting k (length names))) → AreCaptures d names (map (port_records (arrived 0 packets)) (counting k (length names)))
all_back back packets kept d [] k are = tt
all_back back packets kept d (n ∷ names) k are =
    let first : d.file n ≡ Some (came_on packets k) = cc in
    let rest : map (λ n. d.file n) names ≡ map (λ l. Some l) (map (came_on packets) (counting (k + 1) (length names))) = cc in
    (record { bytes = came_on packets k; file = first; head = written; capture = came_back back packets kept k }, all_back back packets kept d names (k + 1) rest)

-- ---- nothing came yet

no_records : (k n : ℕ) → map (λ (records : List Record). let none : List Record = [] in none) (map (port_records []) (counting k n)) ≡ map (port_records []) (counting k n)
no_records k zero = refl
no_records k (suc n) = ap (λ l. [] ∷ l) (no_records (k + 1) n)

nothing_lived : NothingIsRun → (c : Settings) (n : ℕ) → IsLiveRun c n [] []
nothing_lived nothing c n = record {
  run = record { ranged = tt; run = subst (λ l. Run c l []) (no_records 0 n) (nothing c (records_of n [])).0 };
  faces = tt;
  span = tt;
  kept = tt;
}

-- ---- before an output is opened

others_same : (k : LiveWords) (old new : Seen) → SameFiles old new → KeepsOthers (Live k) old new
others_same k old new same m none = same m

-- what reading the configuration and the stream counts
counted : (k : LiveWords) {end : End} {old new : Seen} → Uses (Among (k.config ∷ k.stream ∷ [])) Nothing end old new → CountsOf (k.config ∷ k.stream ∷ []) (k.journal ∷ by_port k.ins k.outs) end old new
counted k used = used_counts used (k.config ∷ k.stream ∷ []) (k.journal ∷ by_port k.ins k.outs) (λ m x. x)

config_alone : (k : LiveWords) (end : End) (old new : Seen) → Uses (Only k.config) Nothing end old new → Uses (Among (k.config ∷ k.stream ∷ [])) Nothing end old new
config_alone k = uses_wider (Only k.config) Nothing (Among (k.config ∷ k.stream ∷ [])) Nothing (λ m x. inl x) (λ m x. x)

-- the configuration can't be taken
config_ended : (k : LiveWords) (old new : Seen) (x : Outcome) → ConfigRead k.config old new (Err x) → Holds (Live k) old new x
config_ended k old new x read = config_refused read (Holds (Live k) old new)
    (λ f used says. (used_files used, says, counted k (config_alone k Said old new used)))
    (λ used. (others_same k old new (used_files used), λ told. inl (used_files used, rose_only k.config old.read_faults new.read_faults used.counts.0), counted k (config_alone k Read old new used)))
    (λ used. (others_same k old new (used_files used), λ told. inl (used_files used), counted k (config_alone k Memory old new used)))

pub live_no_config : (k : LiveWords) {old new : Seen} {x : Outcome} → ConfigRead k.config old new (Err x) → IsLivePrepared k old new (Err x)
live_no_config k {old} {new} {x} read = record { uses = read.uses; fabric = tt; config = λ told. tt; ended = config_ended k old new x read }

module _ (k : LiveWords) {c : Settings} {old b : Seen} (config : ConfigRead k.config old b (Ok c)) where
  pub live_no_fabric : IsLivePrepared k old b (Err ends.Memory)
  live_no_fabric =
      let same = used_files config.uses in
      record { uses = uses_refused (Only k.config) Nothing old b config.uses; fabric = tt; config = λ told. tt; ended = (others_same k old b same, λ told. inl same, config.uses.counts) }

  pub live_fabric : (F : Contents) → F.settings ≡ c → IsNew F k.outs → IsLivePrepared k old b (Ok F)
  live_fabric F is made = record { uses = config.uses; fabric = made; config = λ told. subst (λ (s : Settings). HasConfig old k.config s) (sym is) (config.ok told); ended = tt }

-- a fabric that was made of it
pub new_live : (words : List (String Global)) (F : Contents) (c : Settings) → F.settings ≡ c → IsTrue (is_in_range c) → F.count ≡ live_count words → F.state ≡ state_of c [] → (F.events ≡ []) × (F.outs ≡ []) → IsNew F (live_of words).outs
new_live words F c is range count state nothing = record {
  range = subst (λ (s : Settings). IsTrue (is_in_range s)) (sym is) range;
  count = count ∙ sym (length-counted (sent_at words) 0 (live_count words));
  state = state ∙ ap (λ (s : Settings). state_of s []) (sym is);
  nothing = nothing;
}

-- ---- words that are known

-- the stream's name, and all of them, to a depot that was used since
pub known_stream : (words : List (String Global)) → is_live words ≡ true → (a b : Seen) → ((m : List ℕ) → b.knows m ≡ a.knows m) → AllKnown a words → (l : List ℕ) → l ≡ name_at words 3 → IsTrue (b.knows l)
known_stream words live a b same known l is =
    let w = both words live in
    subst (λ m. IsTrue (b.knows m)) (sym is) (subst IsTrue (sym (same (name_at words 3))) (known 3 (omega arith) (omega (arith, w.fits, w.some))))

pub known_on : (words : List (String Global)) (a b : Seen) → ((m : List ℕ) → b.knows m ≡ a.knows m) → AllKnown a words → AllKnown b words
known_on words a b same known i some lt = subst IsTrue (sym (same (name_at words i))) (known i some lt)

-- what the opening of a word did
pub in_as : {m n : List ℕ} {b d : Seen} {r : Result ℕ Failed} → m ≡ n → OpensIn {E = Failed} m b d r → OpensIn {E = Failed} n b d r
in_as {m} {n} {b} {d} {r} e o = subst (λ l. OpensIn {E = Failed} l b d r) e o

-- ---- the outputs

-- the names of what is opened, and of where the stream is
module _ (words : List (String Global)) (live : is_live words ≡ true) (a : Seen) (journal : ℕ) (ins outs : List ℕ)
    (slots : AreEmptyOutputs a (live_names words (live_count words)) (journal ∷ by_port ins outs)) (wide : length ins ≡ length (live_of words).ins) (wide' : length outs ≡ length (live_of words).outs) where
  abbrev k : LiveWords
  k = live_of words

  abbrev f : LiveSlots
  f = record { journal = journal; ins = ins; outs = outs }

  abbrev n : ℕ
  n = live_count words

  pub same_width : length k.ins ≡ length k.outs
  same_width = length-counted (came_at words) 0 n ∙ sym (length-counted (sent_at words) 0 n)

  parts : AreEmptyOutputs a k.ins ins × AreEmptyOutputs a k.outs outs
  parts = outputs_split a k.ins k.outs ins outs same_width wide wide' slots.1

  ins_count : length ins ≡ n
  ins_count = slots_count a (came_at words) n ins parts.0

  outs_count : length outs ≡ n
  outs_count = slots_count a (sent_at words) n outs parts.1

  in_name : (q : ℕ) → q < length ins → name_of a ins q ≡ came_at words q
  in_name q lt = (there a (came_at words) n ins parts.0 q (omega (arith, lt, ins_count))).name_is

  out_name : (q : ℕ) → q < length outs → name_of a outs q ≡ sent_at words q
  out_name q lt = (there a (sent_at words) n outs parts.1 q (omega (arith, lt, outs_count))).name_is

  in_among : (m : List ℕ) → NameIn a ins m → Among k.ins m
  in_among m at = subst (Among k.ins) (sym (at.2 ∙ in_name at.0 at.1)) (let e = ins_count in let lt = at.1 in counted_among (came_at words) 0 n at.0 (omega arith) (omega arith))

  out_among : (m : List ℕ) → NameIn a outs m → Among k.outs m
  out_among m at = subst (Among k.outs) (sym (at.2 ∙ out_name at.0 at.1)) (let e = outs_count in let lt = at.1 in counted_among (sent_at words) 0 n at.0 (omega arith) (omega arith))

  pub written_among : (m : List ℕ) → LiveNames a f m → Among (k.journal ∷ by_port k.ins k.outs) m
  written_among m (inl came) = inr (among_came k.ins k.outs m same_width (in_among m came))
  written_among m (inr (inl is)) = inl (is ∙ slots.0.1)
  written_among m (inr (inr sent)) = inr (among_sent k.ins k.outs m same_width (out_among m sent))

  are_live : AreLive a f
  are_live = record {
    files = record {
      journal_ = slots.0.0;
      outs_ = are_outputs a (sent_at words) n outs parts.1 (sent_once words live);
      apart = λ q lt same. absurd (sent_first words live 2 q (omega arith) (omega arith) (omega (arith, lt, outs_count)) (sym (out_name q lt) ∙ same ∙ slots.0.1));
    };
    ins_ = are_outputs a (came_at words) n ins parts.0 (came_once words live);
    apart = λ m came. λ w. elim w [
      | inl is ↦ came_first words live 2 came.0 (omega arith) (omega arith) (omega (arith, came.1, ins_count)) (sym (in_name came.0 came.1) ∙ sym came.2 ∙ is ∙ slots.0.1)
      | inr sent ↦ came_sent words live came.0 sent.0 (omega (arith, came.1, ins_count)) (omega (arith, sent.1, outs_count)) (sym (in_name came.0 came.1) ∙ sym came.2 ∙ sent.2 ∙ out_name sent.0 sent.1)
    ];
  }

  pub live_ports : (1 ≤ length outs) × (length outs ≤ 64)
  live_ports = let b = both words live in (omega (arith, outs_count, b.some), omega (arith, outs_count, b.few))

  pub live_count_is : (m : ℕ) → m ≡ length k.outs → m ≡ length outs
  live_count_is m e = e ∙ sym wide'

  pub live_given : (stream : ℕ) → IsTrue (a.input stream) → a.name stream ≡ k.stream → AreGiven a stream f
  live_given stream input name = record {
    input = input;
    apart = λ w. stream_apart words live (subst (Among (live_names words n)) name (written_among (a.name stream) w));
    files = are_live;
    width = ins_count ∙ sym outs_count;
    empty = λ told. (
      record {
        lines_ = ap a.file slots.0.1 ∙ slots.0.2 told;
        records = λ q lt. let at = there a (sent_at words) n outs parts.1 q (omega (arith, lt, outs_count)) in ap a.file at.name_is ∙ at.empty told;
      },
      λ q lt. let at = there a (came_at words) n ins parts.0 q (omega (arith, lt, ins_count)) in ap a.file at.name_is ∙ at.empty told,
    );
  }

  -- ---- what is left in them

  module _ (b : Seen) (c : Settings) (old : Seen) {counted : List ℕ → Type 0} (touches : Touches (LiveNames a f) counted a b) where
    sent_named : AreNamed b (k.journal ∷ k.outs) (journal ∷ outs)
    sent_named = named_still a b _ _ touches (k.journal ∷ k.outs) (journal ∷ outs) (slots.0, parts.1)

    came_named : AreNamed b k.ins ins
    came_named = named_still a b _ _ touches k.ins ins parts.0

    holds_all : (packets : List NgRecord) (J : Journal) → HoldLive c b f packets J → HoldsSession k c b packets J
    holds_all packets J h = record {
      sent = record {
        lines = ap b.file (sym sent_named.0) ∙ h.wholes.lines_;
        captures = held b k.outs outs (λ p. egress c (length k.outs) p J) 1 sent_named.1 (λ q lt.
            let e : q + 1 ≡ 1 + q = omega arith in
            h.wholes.records q lt ∙ ap (λ (p : ℕ). Some (egress c (length outs) p J)) e ∙ ap (λ (n : ℕ). Some (egress c n (1 + q) J)) wide');
      };
      came = held b k.ins ins (came_on packets) 0 came_named (λ q lt. let e : q ≡ 0 + q = omega arith in h.came q lt ∙ ap (λ (p : ℕ). Some (came_on packets p)) e);
    }

    holds_fronts : (packets : List NgRecord) (J : Journal) → HoldSome c b f packets J → HoldsSessionFronts k c old b packets J
    holds_fronts packets J h =
        let w = h.fronts in
        record {
          sent = record {
            lines = inr (w.hold.lines_.0, ap b.file (sym sent_named.0) ∙ w.hold.lines_.1, w.hold.lines_.2);
            captures = held_fronts old b k.outs outs (λ p. egress c (length k.outs) p J) 1 sent_named.1 (λ q lt.
                let e : q + 1 ≡ 1 + q = omega arith in
                let r = w.hold.records q lt in
                (r.0, r.1, subst (λ (n : ℕ). IsPrefixOf r.0 (egress c n (1 + q) J)) wide' (subst (λ (p : ℕ). IsPrefixOf r.0 (egress c (length outs) p J)) e r.2)));
            order = inr (record {
              before = w.before;
              begins = w.begins;
              order = in_order_as b (b.name journal) k.journal (length k.outs) (name_of b outs) (λ q. get_or k.outs q []) _ _ sent_named.0 (λ q lt. named_at b k.outs outs sent_named.1 q (omega (arith, lt, wide')))
                  (subst (λ (n : ℕ). InOrder b (b.name journal) n (name_of b outs) (file_bytes (text_so_far w.before) (captures_so_far c n w.before)) (file_bytes (text J) (captures c n J))) wide' w.hold.order);
            });
          };
          came = held_fronts old b k.ins ins (came_on packets) 0 came_named (λ q lt.
              let e : q ≡ 0 + q = omega arith in
              let r = h.came q lt in
              (r.0, r.1, subst (λ (p : ℕ). IsPrefixOf r.0 (came_on packets p)) e r.2));
        }

-- ---- the stream

-- what stands when the stream is open: its slot, and the bytes that it has to give
pub record IsStream (k : LiveWords) (old a : Seen) (stream : ℕ) : Type 0 where
  pub input : IsTrue (a.input stream)
  pub name_ : a.name stream ≡ k.stream
  pub bytes : IsTrue old.told → old.file k.stream ≡ Some (a.left stream)

le_trans : {x y z : ℕ} → x ≤ y → y ≤ z → x ≤ z
le_trans {x} {y} {z} h k = omega arith

module _ (words : List (String Global)) (live : is_live words ≡ true) (safe : LegalIsSafe) (back : OrderedReadsBack) (nothing : NothingIsRun) (c : Settings) (range : IsTrue (is_in_range c)) (old m s a : Seen)
    (config : IsTrue old.told → HasConfig old (live_of words).config c) (read : Uses (Only (live_of words).config) Nothing Said old m) where
  abbrev kk : LiveWords
  kk = live_of words

  told_m : IsTrue old.told → IsTrue m.told
  told_m = used_told read

  with_stream : (end : End) → Uses (Only kk.stream) Nothing end m s → Uses (Among (kk.config ∷ kk.stream ∷ [])) Nothing end old s
  with_stream end stream = uses_then (Among (kk.config ∷ kk.stream ∷ [])) Nothing end old m s (config_alone kk Said old m read) (uses_wider (Only kk.stream) Nothing (Among (kk.config ∷ kk.stream ∷ [])) Nothing (λ n x. inr (inl x)) (λ n x. x) end m s stream)

  -- the stream can't be opened
  pub stream_closed : (e : Failed) → OpensIn {E = Failed} kk.stream m s (Err e) → Holds (Live kk) old s ends.ReadFault
  stream_closed e o =
      let used = with_stream Read (opens_in_uses m s kk.stream (Err e) o) in
      let same : SameFiles old s = used_files used in
      let rose : Rose (old.read_faults kk.stream) (s.read_faults kk.stream) = rose_later (old.read_faults kk.stream) (m.read_faults kk.stream) (s.read_faults kk.stream) (read.touches.reads_rise kk.stream) o.cause in
      (others_same kk old s same, λ told. inr (inl (same, rose, (c, config told))), counted kk used)

  module _ (stream : ℕ) (o : OpensIn {E = Failed} kk.stream m s (Ok stream)) where
    used_s : Uses (Among (kk.config ∷ kk.stream ∷ [])) Nothing Said old s
    used_s = with_stream Said (opens_in_uses m s kk.stream (Ok stream) o)

    quiet_s : NoFaults old s
    quiet_s = used_s.counts

    same_s : SameFiles old s
    same_s = used_files used_s

    told_s : IsTrue old.told → IsTrue s.told
    told_s = used_told used_s

    stream_file : IsTrue old.told → old.file kk.stream ≡ Some (s.left stream)
    stream_file told = sym (used_files read kk.stream) ∙ o.left (told_m told)

    -- what the stream and nothing of it say
    begun : (bytes : List ℕ) → IsTrue old.told → old.file kk.stream ≡ Some bytes → HasHalt kk IsBegun old
    begun bytes told file = record { settings = c; config = config told; bytes = bytes; stream = file; packets = []; faces = tt; span = tt; why = (before_all, bytes, (zero, (refl, refl, refl))) }

    empty_session : ((name : List ℕ) → (a.file name ≡ old.file name) ⊎ (a.file name ≡ Some [])) → AreUnwritten (kk.journal ∷ by_port kk.ins kk.outs) old a → HoldsSessionFronts kk c old a [] []
    empty_session each order = record {
      sent = record {
        lines = elim (each kk.journal) [ inl same ↦ inl same | inr empty ↦ inr ([], empty, (text [], refl)) ];
        captures = empty_fronts old a each kk.outs (λ p. egress c (length kk.outs) p []) 1;
        order = inl order;
      };
      came = empty_fronts old a each kk.ins (came_on []) 0;
    }

    -- an output can't be opened
    pub not_recorded : {e : Failed} → RecordedOpened kk s a (Err e) → Holds (Live kk) old a ends.WriteFault
    unfolding begun stream_file
    not_recorded r =
        let all = kk.journal ∷ by_port kk.ins kk.outs in (
          λ name none. r.opens.touches.files name (none_among all name none) ∙ same_s name,
          λ told. record {
            halt = begun (s.left stream) told (stream_file told);
            journal = [];
            run = nothing_lived nothing c (length kk.outs);
            files = empty_session (λ name. elim (r.opens.each (told_s told) name) [ inl same ↦ inl (same ∙ same_s name) | inr empty ↦ inr empty ]) (unwritten all old s a same_s (told_s told) r.cause);
          },
          (
            rose_since old.write_faults s.write_faults a.write_faults used_s.touches.writes_rise all (up_to_rose all s a r.cause),
            λ name. r.opens.reads name ∙ quiet_s.0 name,
          ),
        )

    -- the outputs are open
    module _ (files : Recorded) (r : RecordedOpened kk s a (Ok files)) (width : HasWidth kk files) where
      abbrev fs : LiveSlots
      fs = record { journal = files.journal; ins = files.ins.items; outs = files.outs.items }

      stream_kept : s.name stream ≡ kk.stream
      stream_kept = o.opened.2

      pub stream_open : IsStream kk old a stream
      stream_open =
          let same = r.opens.touches.slots stream (inl o.opened.0) in
          record {
            input = subst IsTrue (sym same.input) o.opened.0;
            name_ = same.name ∙ stream_kept;
            bytes = λ told. stream_file told ∙ ap (λ l. Some l) (sym (r.opens.touches.left stream o.opened.0 (λ among. stream_apart words live (subst (Among (live_names words (live_count words))) stream_kept among))));
          }

      pub given_live : AreGiven a stream fs
      given_live = live_given words live a files.journal files.ins.items files.outs.items r.slots width.0 width.1 stream stream_open.input stream_open.name_

      told_a : IsTrue old.told → IsTrue a.told
      told_a told = subst IsTrue (sym r.opens.touches.told) (told_s told)

      quiet_a : NoFaults old a
      quiet_a = none_then old s a quiet_s (r.opens.reads, r.counts)

      rise_reads : (name : List ℕ) → old.read_faults name ≤ a.read_faults name
      rise_reads name = le_trans (used_s.touches.reads_rise name) (r.opens.touches.reads_rise name)

      rise_writes : (name : List ℕ) → old.write_faults name ≤ a.write_faults name
      rise_writes name = le_trans (used_s.touches.writes_rise name) (r.opens.touches.writes_rise name)

      -- what it did
      module _ (b : Seen) (touches : Touches (LiveNames a fs) (Either (Only (a.name stream)) (LiveNames a fs)) a b) where
        others : KeepsOthers (Live kk) old b
        others name none =
            let apart = none_among (kk.journal ∷ by_port kk.ins kk.outs) name none in
            touches.files name (λ w. apart (written_among words live a files.journal files.ins.items files.outs.items r.slots width.0 width.1 name w)) ∙ r.opens.touches.files name apart ∙ same_s name

        session : (packets : List NgRecord) (left : LeftWhole c b fs packets) → IsTrue b.told → HasSession kk c packets b
        session packets left told =
            let all = holds_all words live a files.journal files.ins.items files.outs.items r.slots width.0 width.1 b c old touches packets left.entry_list (left.hold told) in
            let run = subst (λ (n : ℕ). IsLiveRun c n packets left.entry_list) width.1 left.run in
            let lists = subst (λ (n : ℕ). AreCaptures b kk.ins (map (port_records (arrived 0 packets)) (counting 0 n))) (same_width words live a files.journal files.ins.items files.outs.items r.slots width.0 width.1)
            (all_back back packets run.kept b kk.ins 0 all.came) in
            record {
              journal = left.entry_list;
              run = run;
              one = λ I other is.
                  let one_text : text I ≡ text left.entry_list = let both = sym is ∙ all.sent.lines in cc in
                  (text_names_journal I left.entry_list other.ranged run.run.ranged (same_frames (records_of (length kk.outs) (arrived 0 packets)) I left.entry_list other.run.ports run.run.run.ports other.run.frames run.run.run.frames)).0 one_text;
              safe = safe c left.entry_list range run.run.run.legal;
              files = all;
              captures = lists;
            }

        told_b : IsTrue old.told → IsTrue b.told
        told_b told = subst IsTrue (sym touches.told) (told_a told)

        -- behind these packets it couldn't go on
        halted : (Why : Settings → List NgRecord → List ℕ → Type 0) (told : IsTrue old.told) (packets : List NgRecord) → Why c packets (a.left stream) → LeftWhole c b fs packets → HasHalted kk Why old b
        halted Why told packets why left =
            let run = subst (λ (n : ℕ). IsLiveRun c n packets left.entry_list) width.1 left.run in
            record {
              halt = record { settings = c; config = config told; bytes = a.left stream; stream = stream_open.bytes told; packets = packets; faces = run.faces; span = run.span; why = why };
              session = session packets left (told_b told);
            }

        front : (told : IsTrue old.told) (packets : List NgRecord) → Begins packets (a.left stream) → LeftBroken c b fs packets → HasLiveFront kk old b
        front told packets why left =
            let run = subst (λ (n : ℕ). IsLiveRun c n packets left.entry_list) width.1 left.run in
            record {
              halt = record { settings = c; config = config told; bytes = a.left stream; stream = stream_open.bytes told; packets = packets; faces = run.faces; span = run.span; why = why };
              journal = left.entry_list;
              run = run;
              files = holds_fronts words live a files.journal files.ins.items files.outs.items r.slots width.0 width.1 b c old touches packets left.entry_list (left.hold (told_b told));
            }

        finished : (done : Done) (told : IsTrue old.told) → LiveFinished c LIMITS fs (a.left stream) b done → HasLived kk done.frames done.entries old b
        unfolding session
        finished done told x = record {
          settings = c;
          config = config told;
          packets = x.packets;
          stream = record { bytes = a.left stream; file = stream_open.bytes told; is = x.file; within = (x.bytes, x.count) };
          session = session x.packets x.left (told_b told);
          packets_are = x.frames;
          frames_are = x.frames ∙ sym x.counted;
          entries_are = x.entries;
        }

        refused : (told : IsTrue old.told) (packets : List NgRecord) → Begins packets (a.left stream) → LeftWhole c b fs packets ⊎ ((packets ≡ []) × LeftBroken c b fs packets) → IsLiveRefused kk old b
        unfolding front
        refused told packets why (inl whole) = inr (inl (halted IsBegun told packets why whole))
        refused told packets why (inr broken) = inr (inr (front told packets why broken.1, broken.0))

      pub live_ended : (b : Seen) (x : Result Done LiveFault) → LiveRuns c LIMITS stream fs a b x → Holds (Live kk) old b (lived_by x)
      live_ended b (Ok done) x = (others b x.uses.touches, λ told. finished b x.uses.touches done told (x.ends (told_a told)), none_then old a b quiet_a x.uses.counts)
      live_ended b (Err (fault.Block at why)) x =
          (others b x.uses.touches, λ told. let e = x.ends (told_a told) in halted b x.uses.touches (λ c. IsFaulty LIMITS at why) told e.0 e.1 e.2, none_then old a b quiet_a x.uses.counts)
      live_ended b (Err (fault.Port face)) x = (
        others b x.uses.touches,
        λ told. let e = x.ends (told_a told) in halted b x.uses.touches (λ c. IsNoPort LIMITS (length kk.outs) face) told e.0 (subst (λ (n : ℕ). IsNoPort LIMITS n face e.0 (a.left stream)) width.1 e.1) e.2,
        none_then old a b quiet_a x.uses.counts,
      )
      live_ended b (Err (fault.Limit kind)) x = (
        others b x.uses.touches,
        λ told. let e = x.ends (told_a told) in halted b x.uses.touches (λ c. IsPast c LIMITS (length kk.outs) kind) told e.0 (subst (λ (n : ℕ). IsPast c LIMITS n kind e.0 (a.left stream)) width.1 e.1) e.2,
        none_then old a b quiet_a x.uses.counts,
      )
      live_ended b (Err fault.Read) x =
          let rose = rose_only (a.name stream) a.read_faults b.read_faults x.uses.counts.0 in
          let named : Rose (a.read_faults kk.stream) (b.read_faults kk.stream) = subst (λ name. Rose (a.read_faults name) (b.read_faults name)) stream_open.name_ rose in
          let since = rose_later (old.read_faults kk.stream) (a.read_faults kk.stream) (b.read_faults kk.stream) (rise_reads kk.stream) named in (
            others b x.uses.touches,
            λ told. let e = x.ends (told_a told) in inr (inr (since, halted b x.uses.touches IsBegun told e.0 e.1 e.2)),
            ((kk.stream, inr (inl refl), since), λ name. x.uses.counts.1 name ∙ quiet_a.1 name),
          )
      live_ended b (Err fault.Write) x =
          let rose = x.uses.counts.0 in
          let all = kk.journal ∷ by_port kk.ins kk.outs in
          let among = written_among words live a files.journal files.ins.items files.outs.items r.slots width.0 width.1 rose.0 rose.1 in (
            others b x.uses.touches,
            λ told. let e = x.ends (told_a told) in front b x.uses.touches told e.0 e.1 e.2,
            (rose_since old.write_faults a.write_faults b.write_faults rise_writes all (rose.0, among, rose.2), λ name. x.uses.counts.1 name ∙ quiet_a.0 name),
          )
      live_ended b (Err fault.Memory) x =
          (others b x.uses.touches, λ told. let e = x.ends (told_a told) in refused b x.uses.touches told e.0 e.1 e.2, none_then old a b quiet_a x.uses.counts)

-- ---- the lists as they are lent

pub given_as : {a : Seen} {stream journal : ℕ} {i ins o outs : List ℕ} → i ≡ ins → o ≡ outs → AreGiven a stream (record { journal = journal; ins = ins; outs = outs }) → AreGiven a stream (record { journal = journal; ins = i; outs = o })
given_as {a} {stream} {journal} {i} {ins} {o} {outs} e f given =
    subst (λ (l : List ℕ). AreGiven a stream (record { journal = journal; ins = l; outs = o })) (sym e) (subst (λ (l : List ℕ). AreGiven a stream (record { journal = journal; ins = ins; outs = l })) (sym f) given)

pub lives_as : {c : Settings} {budget : Budget} {a b : Seen} {stream journal : ℕ} {i ins o outs : List ℕ} {r : Result Done LiveFault} → i ≡ ins → o ≡ outs →
    LiveRuns c budget stream (record { journal = journal; ins = i; outs = o }) a b r → LiveRuns c budget stream (record { journal = journal; ins = ins; outs = outs }) a b r
lives_as {c} {budget} {a} {b} {stream} {journal} {i} {ins} {o} {outs} {r} e f runs =
    subst (λ (l : List ℕ). LiveRuns c budget stream (record { journal = journal; ins = l; outs = outs }) a b r) e (subst (λ (l : List ℕ). LiveRuns c budget stream (record { journal = journal; ins = i; outs = l }) a b r) f runs)
