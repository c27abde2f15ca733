-- The captures of the ports, read one after another.
use Rattle.std.proofs.Common.{◌≡◌, ℕ, ◌+◌, inl, List, [], ◌∷◌, ◌++◌, length, length-append, append_assoc, append-nil, Option, Some, Ok, Err, IsTrue, refl, sym, ◌∙◌, ap, subst, arith}
use Rattle.std.specs.Prelude.{Result, Vec, map, IfOk, IfErr}
use Rattle.std.specs.declared.alloc.Global.{Global}
use Rattle.fab_base.specs.Ending.{End, Said, end_by, Uses}
use Rattle.fab_base.specs.Seen.{Seen, Rose, OpensIn, Nothing, Only}
use Rattle.fab_base.specs.declared.values.Failed.{Failed}
use Rattle.fab_base.proofs.EndingLemmas.{uses_none, uses_refused, uses_then, uses_wider, rose_only, opens_in_uses}
use Rattle.fab_base.proofs.SeenLemmas.{told_stays, rose_later}
use Rattle.pcap_file.specs.declared.Budget.{Budget}
use Rattle.pcap_file.specs.declared.Record.{Record}
use Rattle.pcap_file.specs.Records.{Ascends}
use Rattle.pcap_file.specs.Faults.{gather_end, IsStopped}
use Rattle.pcap_file.specs.declared.fault.GatherFault.{GatherFault}
use Rattle.pcap_file.specs.declared.fault.GatherFault.TheVariants as gather
use Rattle.pcap_file.specs.Captures.{AreFit, Taken, unless_stopped, capture_by, captures_by, ReadsCapture}
use Rattle.fip_snoop.specs.Queue.{AllAscend}
use Rattle.run_files.specs.Names.{Among}
use Rattle.side_runs.specs.Opening.{in_front, ReadsInput, AreRead, ReadsInputs}
use Rattle.side_runs.specs.Records.{AllFit, count_in}
use Rattle.run_files.proofs.NameLemmas.{among_front, among_back, among_all}

-- ---- one capture

module _ (port : ℕ) (name : List ℕ) (a : Seen) (had : Budget) where
  -- what one capture is to all from it on
  front_taken : (l : List ℕ) (left : Budget) (later : List (Option (List ℕ))) (records : List Record) → a.file name ≡ Some l → capture_by port had l ≡ Ok (record { records = records; left = left })
      → captures_by port had (a.file name ∷ later) ≡ in_front (records ∷ []) (captures_by (port + 1) left later)
  front_taken l left later records file is =
      ap (λ f. captures_by port had (f ∷ later)) file
      ∙ ap (λ t. unless_stopped {X = Taken} {Y = List (List Record)} t (λ t. unless_stopped {X = List (List Record)} {Y = List (List Record)} (captures_by (port + 1) t.left later) (λ ins. Ok (t.records ∷ ins)))) is

  front_stops : (l : List ℕ) (later : List (Option (List ℕ))) (e : GatherFault) → a.file name ≡ Some l → capture_by port had l ≡ Err e → captures_by port had (a.file name ∷ later) ≡ Err e
  front_stops l later e file is =
      ap (λ f. captures_by port had (f ∷ later)) file
      ∙ ap (λ t. unless_stopped {X = Taken} {Y = List (List Record)} t (λ t. unless_stopped {X = List (List Record)} {Y = List (List Record)} (captures_by (port + 1) t.left later) (λ ins. Ok (t.records ∷ ins)))) is

  pub input_read : (slot : ℕ) (b c : Seen) (left : Budget) (result : Result (List Record) GatherFault) → OpensIn {E = Failed} name a b (Ok slot) → ReadsCapture port slot b c had left result → ReadsInput port name a c had left result
  input_read slot b c left result o k =
      let name_is = o.opened.2 in
      record {
        uses = uses_then (Only name) Nothing (end_by gather_end result) a b c (opens_in_uses a b name (Ok slot) o) (subst (λ n. Uses (Only n) Nothing (end_by gather_end result) b c) name_is k.uses);
        fit = k.fit;
        frames = k.frames;
        taken = λ told later. taken_as told later result (k.taken (told_stays name a b o.reads.keeps told));
        stops = λ told later. stops_as told later result (k.stops (told_stays name a b o.reads.keeps told));
      }
    where
      taken_as : IsTrue a.told → (later : List (Option (List ℕ))) (result : Result (List Record) GatherFault) → IfOk result (λ records. capture_by port had (b.left slot) ≡ Ok (record { records = records; left = left }))
          → IfOk result (λ records. captures_by port had (a.file name ∷ later) ≡ in_front (records ∷ []) (captures_by (port + 1) left later))
      taken_as told later (Ok records) is = front_taken (b.left slot) left later records (o.left told) is
      taken_as told later (Err e) is = tt

      stops_as : IsTrue a.told → (later : List (Option (List ℕ))) (result : Result (List Record) GatherFault) → IfErr result (λ e. IsStopped e → capture_by port had (b.left slot) ≡ Err e) → IfErr result (λ e. IsStopped e → captures_by port had (a.file name ∷ later) ≡ Err e)
      stops_as told later (Ok records) is = tt
      stops_as told later (Err e) is = λ stopped. front_stops (b.left slot) later e (o.left told) (is stopped)

  pub input_unopened : (b : Seen) (e : Failed) → OpensIn {E = Failed} name a b (Err e) → ReadsInput port name a b had had (Err gather.Read)
  input_unopened b e o = record {
    uses = opens_in_uses a b name (Err e) o;
    fit = tt;
    frames = tt;
    taken = λ told later. tt;
    stops = λ told later stopped. absurd stopped;
  }

-- ---- all captures

-- What stands for the loop when the captures under these names were read.
pub record InputsSoFar (names : List (List ℕ)) (a now : Seen) (ins : List (List Record)) (had left : Budget) : Type 0 where
  pub uses : Uses (Among names) Nothing Said a now
  pub count : length ins ≡ length names
  pub fit : AllFit ins
  pub ascend : AllAscend ins
  pub frames : left.frames + count_in ins ≡ had.frames
  pub taken : IsTrue a.told → (later : List (Option (List ℕ))) → captures_by 1 had (map (λ n. a.file n) names ++ later) ≡ in_front ins (captures_by (length names + 1) left later)

front_none : (later : Result (List (List Record)) GatherFault) → later ≡ in_front [] later
front_none (Ok rest) = refl
front_none (Err e) = refl

front_more : (ins : List (List Record)) (rs : List Record) (later : Result (List (List Record)) GatherFault) → in_front ins (in_front (rs ∷ []) later) ≡ in_front (ins ++ rs ∷ []) later
front_more ins rs (Ok rest) = ap Ok (sym (append_assoc ins (rs ∷ []) rest))
front_more ins rs (Err e) = refl

files_push : (a : Seen) (names : List (List ℕ)) (name : List ℕ) (later : List (List ℕ)) → map (λ n. a.file n) (names ++ name ∷ later) ≡ map (λ n. a.file n) names ++ a.file name ∷ map (λ n. a.file n) later
files_push a [] name later = refl
files_push a (n ∷ names) name later = ap (λ l. a.file n ∷ l) (files_push a names name later)

fit_both : (ins : List (List Record)) (rs : List Record) → AllFit ins → AreFit rs → AllFit (ins ++ rs ∷ [])
fit_both [] rs fit own = (own, tt)
fit_both (x ∷ ins) rs fit own = (fit.0, fit_both ins rs fit.1 own)

ascend_both : (ins : List (List Record)) (rs : List Record) → AllAscend ins → Ascends 0 rs → AllAscend (ins ++ rs ∷ [])
ascend_both [] rs up own = (own, tt)
ascend_both (x ∷ ins) rs up own = (up.0, ascend_both ins rs up.1 own)

count_both : (ins : List (List Record)) (rs : List Record) → count_in (ins ++ rs ∷ []) ≡ count_in ins + length rs
count_both [] rs = omega arith
count_both (x ∷ ins) rs = let h = count_both ins rs in omega (arith, h)

pub inputs_none : (a : Seen) (had : Budget) → InputsSoFar [] a a [] had had
inputs_none a had = record {
  uses = uses_none (Among []) Nothing a;
  count = refl;
  fit = tt;
  ascend = tt;
  frames = omega arith;
  taken = λ told later. front_none (captures_by 1 had later);
}

module _ (names : List (List ℕ)) (a b : Seen) (ins : List (List Record)) (had left : Budget) (h : InputsSoFar names a b ins had left) where
  told_now : IsTrue a.told → IsTrue b.told
  told_now told = subst IsTrue (sym h.uses.touches.told) told

  taken_so_far : IsTrue a.told → captures_by 1 had (map (λ n. a.file n) names) ≡ Ok ins
  taken_so_far told = ap (captures_by 1 had) (sym (append-nil (map (λ n. a.file n) names))) ∙ h.taken told [] ∙ ap Ok (append-nil ins)

  same_files : (m : List ℕ) → b.file m ≡ a.file m
  same_files m = h.uses.touches.files m (λ x. x)

  module _ (name : List ℕ) (d : Seen) (left' : Budget) where
    -- a capture that couldn't be read has its fault counted
    unread : (e : GatherFault) → e ≡ gather.Read → Uses (Only name) Nothing (gather_end e) b d → Rose (b.read_faults name) (d.read_faults name)
    unread (gather.Capture port at why) is u = absurd (cc)
    unread (gather.Limit kind) is u = absurd (cc)
    unread gather.Read is u = rose_only name b.read_faults d.read_faults u.counts.0
    unread gather.Memory is u = absurd (cc)

    used : (end : End) → Uses (Only name) Nothing end b d → Uses (Among (names ++ name ∷ [])) Nothing end a d
    used end u =
        let all = Among (names ++ name ∷ []) in
        uses_then all Nothing end a b d (uses_wider (Among names) Nothing all Nothing (λ m x. among_front names (name ∷ []) m x) (λ m x. x) Said a b h.uses)
        (uses_wider (Only name) Nothing all Nothing (λ m x. among_back names (name ∷ []) m (inl x)) (λ m x. x) end b d u)

    pub inputs_more : (rs : List Record) → ReadsInput (length names + 1) name b d left left' (Ok rs) → InputsSoFar (names ++ name ∷ []) a d (ins ++ rs ∷ []) had left'
    inputs_more rs read =
        let more = length-append names (name ∷ []) in
        record {
          uses = used Said read.uses;
          count = length-append ins (rs ∷ []) ∙ ap (λ (n : ℕ). n + 1) h.count ∙ sym more;
          fit = fit_both ins rs h.fit read.fit.0;
          ascend = ascend_both ins rs h.ascend read.fit.1;
          frames = let was = h.frames in let now = read.frames in let all = count_both ins rs in omega (arith, was, now, all);
          taken = λ told later.
              let next : length names + 1 + 1 ≡ length (names ++ name ∷ []) + 1 = omega (arith, more) in
              ap (λ l. captures_by 1 had (l ++ later)) (files_push a names name [])
              ∙ ap (captures_by 1 had) (append_assoc (map (λ n. a.file n) names) (a.file name ∷ []) later)
              ∙ h.taken told (a.file name ∷ later)
              ∙ ap (λ f. in_front ins (captures_by (length names + 1) left (f ∷ later))) (sym (same_files name))
              ∙ ap (in_front ins) (read.taken (told_now told) later)
              ∙ front_more ins rs (captures_by (length names + 1 + 1) left' later)
              ∙ ap (λ (n : ℕ). in_front (ins ++ rs ∷ []) (captures_by n left' later)) next;
        }

    -- no more captures are read, of all these names
    module _ (all behind : List (List ℕ)) (are : all ≡ names ++ name ∷ behind) where
      used_all : (end : End) → Uses (Only name) Nothing end b d → Uses (Among all) Nothing end a d
      used_all end u =
          uses_wider (Among (names ++ name ∷ [])) Nothing (Among all) Nothing (λ m x. subst (λ l. Among l m) (sym are) (among_all names behind name m x)) (λ m x. x) end a d (used end u)

      pub inputs_failed : (e : GatherFault) → ReadsInput (length names + 1) name b d left left' (Err e) → ReadsInputs all a d had (Err e)
      inputs_failed e read = record {
        uses = used_all (gather_end e) read.uses;
        are = tt;
        taken = λ told. tt;
        stops = λ told stopped.
            ap (λ l. captures_by 1 had (map (λ n. a.file n) l)) are ∙ ap (captures_by 1 had) (files_push a names name behind) ∙ h.taken told (a.file name ∷ map (λ n. a.file n) behind)
            ∙ ap (λ f. in_front ins (captures_by (length names + 1) left (f ∷ map (λ n. a.file n) behind))) (sym (same_files name)) ∙ ap (in_front ins) (read.stops (told_now told) (map (λ n. a.file n) behind) stopped);
        first = λ told is. record {
          before = names;
          name = name;
          behind = behind;
          are = are;
          ins = ins;
          taken = taken_so_far told;
          rose = rose_later (a.read_faults name) (b.read_faults name) (d.read_faults name) (h.uses.touches.reads_rise name) (unread e is read.uses);
        };
      }

      pub inputs_no_room : (rs : List Record) → ReadsInput (length names + 1) name b d left left' (Ok rs) → ReadsInputs all a d had (Err gather.Memory)
      inputs_no_room rs read = record {
        uses = uses_refused (Among all) Nothing a d (used_all Said read.uses);
        are = tt;
        taken = λ told. tt;
        stops = λ told stopped. absurd stopped;
        first = λ told is. absurd (cc);
      }

  pub inputs_all : (v : Vec (List Record) Global) → v.items ≡ ins → ReadsInputs names a b had (Ok v)
  inputs_all v is = record {
    uses = h.uses;
    are = subst (AreRead names had) (sym is) (record { count = h.count; fit = h.fit; ascend = h.ascend; frames = let was = h.frames in omega (arith, was) });
    taken = λ told. taken_so_far told ∙ ap Ok (sym is);
    stops = λ told. tt;
    first = λ told. tt;
  }
