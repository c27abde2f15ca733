-- A bridge over files, from its steps.
use Rattle.std.proofs.Common.{◌≡◌, ℕ, zero, suc, ◌+◌, ◌<◌, true, false, cond, inl, inr, List, [], ◌∷◌, length, Some, Ok, Err, IsTrue, refl, sym, ◌∙◌, ap, subst, arith}
use Rattle.std.specs.Prelude.{String, Result, Vec, map}
use Rattle.std.specs.Result.{IsErrAnd}
use Rattle.std.specs.declared.alloc.Global.{Global}
use Rattle.arrayvec.specs.ArrayVec.{ArrayVec}
use Rattle.fab_base.specs.Ending.{End, Said, Write, end_by, Uses, IsPrefixOf, IsOldOrFront}
use Rattle.fab_base.specs.Seen.{Seen, SameFiles, Nothing}
use Rattle.fab_base.proofs.EndingLemmas.{uses_none, uses_refused, uses_then, uses_wider}
use Rattle.fab_base.specs.declared.values.Failed.{Failed}
use Rattle.fab_config.specs.Settings.{Settings}
use Rattle.fab_base.specs.Counting.{counting}
use Rattle.pcap_file.specs.declared.Budget.{Budget}
use Rattle.pcap_file.specs.declared.Record.{Record}
use Rattle.fab_base.specs.Slots.{slot_at, name_of, NameIn}
use Rattle.pcap_file.specs.declared.fault.LimitKind.TheVariants as limit
use Rattle.pcap_file.specs.declared.fault.GatherFault.{GatherFault}
use Rattle.pcap_file.specs.declared.fault.GatherFault.TheVariants as gather
use Rattle.pcap_file.specs.Captures.{unless_stopped, captures_by}
use Rattle.fip_snoop.specs.Bridge.{Arrival, arrivals, is_too_long}
use Rattle.fip_snoop.specs.Messages.{forwarder_of}
use Rattle.fip_snoop.specs.declared.forwarder.Forwarder.{Forwarder}
use Rattle.side_runs.specs.Copies.{capture}
use Rattle.side_runs.specs.Bridged.{AreOldOrFront, HasFronts, HasStop, Ends, Bridges, OverEnds, RunsOver}
use Rattle.run_files.specs.Faults.{fault_from, run_end, IsUnwritten}
use Rattle.run_files.proofs.FaultLemmas.{same_end}
use Rattle.run_files.specs.Names.{Among}
use Rattle.run_files.specs.declared.fault.RunFault.{RunFault}
use Rattle.run_files.specs.declared.fault.RunFault.TheVariants as faults
use Rattle.side_runs.specs.Crossing.{unless_too_long, crossing, captures}
use Rattle.run_files.specs.Outputs.{AreOutputs}
use Rattle.side_runs.specs.Laws.{TakenAreCaptures}
use Rattle.side_runs.specs.Opening.{OpensOutputs, ReadsInputs}
use Rattle.side_runs.specs.Sides.{side_count, output_at, outs_of, AreDifferent}
use Rattle.side_runs.specs.State.{IsNew, Crosses}
use Rattle.side_runs.specs.declared.bridge.Bridge.{Bridge}
use Rattle.side_runs.specs.declared.bridge_run.Crossed.{Crossed}
use Rattle.side_runs.proofs.NameLemmas.{outputs_differ}
use Rattle.run_files.proofs.NameLemmas.{counted_among, length-counted}
use Rattle.run_files.proofs.OpenLemmas.{At, slots_count, there, are_outputs, up_to_rose}
use Rattle.run_files.proofs.OutputLemmas.{uses_outputs}

-- ---- files by place, and by name

files_by : (d : Seen) (f g : ℕ → List ℕ) (k j n : ℕ) → ((q : ℕ) → q < n → d.file (f (k + q)) ≡ Some (g (j + q))) → map (λ m. d.file m) (map f (counting k n)) ≡ map (λ l. Some l) (map g (counting j n))
files_by d f g k j zero are = refl
files_by d f g k j (suc n) are =
    let kz : k + 0 ≡ k = omega arith in
    let jz : j + 0 ≡ j = omega arith in
    let first : d.file (f k) ≡ Some (g j) = ap (λ (i : ℕ). d.file (f i)) (sym kz) ∙ are 0 (omega arith) ∙ ap (λ (i : ℕ). Some (g i)) jz in
    let later : (q : ℕ) → q < n → d.file (f (k + 1 + q)) ≡ Some (g (j + 1 + q)) = λ q lt.
    ap (λ (i : ℕ). d.file (f i)) (let e : k + 1 + q ≡ k + suc q = omega arith in e) ∙ are (suc q) (omega (arith, lt)) ∙ ap (λ (i : ℕ). Some (g i)) (let e : j + suc q ≡ j + 1 + q = omega arith in e) in
    (λ i. first i ∷ files_by d f g (k + 1) (j + 1) n later i)

fronts_by : (a d : Seen) (f g : ℕ → List ℕ) (k j n : ℕ) → ((q : ℕ) → q < n → IsOldOrFront a d (f (k + q)) (g (j + q))) → AreOldOrFront a d (map f (counting k n)) (map g (counting j n))
fronts_by a d f g k j zero are = tt
fronts_by a d f g k j (suc n) are =
    let kz : k + 0 ≡ k = omega arith in
    let jz : j + 0 ≡ j = omega arith in (
      subst (λ (i : ℕ). IsOldOrFront a d (f k) (g i)) jz (subst (λ (i : ℕ). IsOldOrFront a d (f i) (g (j + 0))) kz (are 0 (omega arith))),
      fronts_by a d f g (k + 1) (j + 1) n (λ q lt.
          subst (λ (i : ℕ). IsOldOrFront a d (f (k + 1 + q)) (g i)) (let e : j + suc q ≡ j + 1 + q = omega arith in e)
          (subst (λ (i : ℕ). IsOldOrFront a d (f i) (g (j + suc q))) (let e : k + suc q ≡ k + 1 + q = omega arith in e) (are (suc q) (omega (arith, lt))))),
    )

-- the same with what was before as an earlier moment has it
pub fronts_since : (a b d : Seen) → SameFiles a b → (names wholes : List (List ℕ)) → AreOldOrFront b d names wholes → AreOldOrFront a d names wholes
fronts_since a b d same [] [] are = tt
fronts_since a b d same [] (w ∷ wholes) are = absurd are
fronts_since a b d same (n ∷ names) [] are = absurd are
fronts_since a b d same (n ∷ names) (w ∷ wholes) are = (elim are.0 [ inl old ↦ inl (old ∙ same n) | inr front ↦ inr front ], fronts_since a b d same names wholes are.1)

-- ---- over captures

module _ (sides : List (String Global)) (ins : List (List Record)) (c : Settings) (a : Seen) where
  abbrev outs : List (List ℕ)
  outs = outs_of sides

  abbrev n : ℕ
  n = side_count sides

  abbrev came : List Arrival
  came = arrivals ins

  outs_count : length outs ≡ n
  outs_count = length-counted (output_at sides) 0 n

  pub over_long : is_too_long came ≡ true → RunsOver outs ins c a a (Err (faults.Limit limit.Span))
  over_long long = record { ends = (λ m. refl, long); uses = uses_none Nothing (Among outs) a }

  pub over_memory : is_too_long came ≡ false → RunsOver outs ins c a a (Err faults.Memory)
  over_memory short = record { ends = (short, inl (λ m. refl)); uses = uses_refused Nothing (Among outs) a a (uses_none Nothing (Among outs) a) }

  -- the wholes, by port
  wholes_are : captures c (length outs) came ≡ map (λ q. capture (forwarder_of c) q came) (counting 1 n)
  wholes_are = ap (λ (k : ℕ). captures c k came) outs_count

  pub over_unopened : (b : Seen) (e : Failed) → is_too_long came ≡ false → OpensOutputs outs a b (Err e) → RunsOver outs ins c a b (Err faults.Write)
  over_unopened b e short o = record {
    ends = (
      short,
      λ told.
          subst (AreOldOrFront a b outs) (sym wholes_are)
          (fronts_by a b (output_at sides) (λ q. capture (forwarder_of c) q came) 0 1 n (λ q lt.
          elim (o.opens.each told (output_at sides (0 + q))) [ inl same ↦ inl same | inr empty ↦ inr ([], empty, (capture (forwarder_of c) (1 + q) came, refl)) ])),
    );
    uses = uses_outputs (Among outs) Write a b o.opens.touches (up_to_rose outs a b o.cause, o.opens.reads);
  }

  module _ (b d : Seen) (slots : ArrayVec ℕ) (different : AreDifferent sides) (o : OpensOutputs outs a b (Ok slots)) where
    pub opened_outputs : AreOutputs b slots.items
    opened_outputs = are_outputs b (output_at sides) n slots.items o.slots (outputs_differ sides different)

    pub opened_count : length slots.items ≡ n
    opened_count = slots_count b (output_at sides) n slots.items o.slots

    at : (q : ℕ) → q < length slots.items → At b (output_at sides q) (slot_at slots.items q)
    at q lt = there b (output_at sides) n slots.items o.slots q (omega (arith, lt, opened_count))

    pub opened_empty : IsTrue b.told → (q : ℕ) → q < length slots.items → b.file (name_of b slots.items q) ≡ Some []
    opened_empty told q lt = ap b.file (at q lt).name_is ∙ (at q lt).empty told

    told_b : IsTrue a.told → IsTrue b.told
    told_b told = subst IsTrue (sym o.opens.touches.told) told

    among : (m : List ℕ) → NameIn b slots.items m → Among outs m
    among m h = subst (Among outs) (sym (h.2 ∙ (at h.0 h.1).name_is)) (counted_among (output_at sides) 0 n h.0 (omega arith) (omega (arith, h.1, opened_count)))

    module _ {r : Result Crossed RunFault} (x : Crosses (forwarder_of c) ins slots.items b d r) where
      uses_on : Uses Nothing (Among outs) (end_by run_end r) a d
      uses_on =
          uses_then Nothing (Among outs) (end_by run_end r) a b d (uses_outputs (Among outs) Said a b o.opens.touches (o.opens.reads, o.counts))
          (uses_wider Nothing (NameIn b slots.items) Nothing (Among outs) (λ m h. h) among (end_by run_end r) b d x.uses)

      -- the file of a port
      named : (q : ℕ) → q < n → {l : List ℕ} → ((lt : q < length slots.items) → d.file (name_of b slots.items q) ≡ Some l) → d.file (output_at sides q) ≡ Some l
      named q lt is = let within : q < length slots.items = omega (arith, lt, opened_count) in ap d.file (sym (at q within).name_is) ∙ is within

      fronts_on : IsTrue a.told → AreOldOrFront a d outs (captures c (length outs) came)
      fronts_on told =
          subst (AreOldOrFront a d outs) (sym wholes_are)
          (fronts_by a d (output_at sides) (λ q. capture (forwarder_of c) q came) 0 1 n (λ q lt.
          let within : q < length slots.items = omega (arith, lt, opened_count) in
          let f = x.front (told_b told) q within in
          let zq : q ≡ 0 + q = omega arith in
          let one : q + 1 ≡ 1 + q = omega arith in
          inr (f.0, ap (λ (i : ℕ). d.file (output_at sides i)) (sym zq) ∙ named q lt (λ lt'. f.1), subst (λ (i : ℕ). IsPrefixOf f.0 (capture (forwarder_of c) i came)) one f.2)))

    whole_on : (done : Crossed) → Crosses (forwarder_of c) ins slots.items b d (Ok done) → IsTrue a.told → map (λ m. d.file m) outs ≡ map (λ l. Some l) (captures c (length outs) came)
    whole_on done x told =
        files_by d (output_at sides) (λ q. capture (forwarder_of c) q came) 0 1 n (λ q lt.
        let zq : q ≡ 0 + q = omega arith in
        let one : q + 1 ≡ 1 + q = omega arith in
        ap (λ (i : ℕ). d.file (output_at sides i)) (sym zq) ∙ named x q lt (λ within. x.whole (told_b told) q within) ∙ ap (λ (i : ℕ). Some (capture (forwarder_of c) i came)) one)
        ∙ ap (λ l. map (λ l. Some l) l) (sym wholes_are)

    pub over_crossed : (r : Result Crossed RunFault) → is_too_long came ≡ false → Crosses (forwarder_of c) ins slots.items b d r → RunsOver outs ins c a d r
    over_crossed (Ok done) short x = record { ends = (short, whole_on done x, x.passed_, x.dropped_); uses = uses_on x }
    over_crossed (Err e) short x = record { ends = unwritten e x.cause; uses = uses_on x }
      where
        unwritten : (f : RunFault) → IsUnwritten (run_end f) → OverEnds outs ins c a d (Err f)
        unwritten (faults.Capture port at why) u = absurd u
        unwritten (faults.Limit kind) u = absurd u
        unwritten faults.Read u = absurd u
        unwritten faults.Write u = (short, fronts_on x)
        unwritten faults.Memory u = (short, inr (fronts_on x))

-- a new bridge is one of its own forwarder
pub own_new : (w : Forwarder) (n : ℕ) (b : Bridge) → IsNew w n b → IsNew b.snoop.forwarder n b
own_new w n b new = subst (λ v. IsNew v n b) (sym new.kept.forwarder) new

pub own_crosses : (w : Forwarder) (n : ℕ) (b : Bridge) (ins : List (List Record)) (slots : List ℕ) (a d : Seen) (r : Result Crossed RunFault) → IsNew w n b → Crosses b.snoop.forwarder ins slots a d r → Crosses w ins slots a d r
own_crosses w n b ins slots a d r new x = subst (λ v. Crosses v ins slots a d r) new.kept.forwarder x

-- ---- over files

module _ (inn outs : List (List ℕ)) (budget : Budget) (c : Settings) (a b : Seen) where
  -- the inputs alone were used
  input_uses : (end : End) → Uses (Among inn) Nothing end a b → Uses (Among inn) (Among outs) end a b
  input_uses end = uses_wider (Among inn) Nothing (Among inn) (Among outs) (λ m x. x) (λ m x. absurd x) end a b

  pub bridges_stopped : (result : Result Crossed RunFault) (g : GatherFault) → IsErrAnd result (λ e. e ≡ fault_from g) → ReadsInputs inn a b budget (Err g) → Bridges inn outs budget c a b result
  bridges_stopped (Ok done) g is r = absurd is
  bridges_stopped (Err e) g is r = subst (λ x. Bridges inn outs budget c a b (Err x)) (sym is) (record {
    ends = ended g r;
    uses = input_uses (run_end (fault_from g)) (subst (λ end. Uses (Among inn) Nothing end a b) (sym (same_end g)) r.uses);
  })
    where
      stop : (e : GatherFault) → captures_by 1 budget (map (λ n. a.file n) inn) ≡ Err e → HasStop inn budget a e
      stop e is = ap (λ t. unless_stopped {X = List (List Record)} {Y = List Arrival} t (λ ins. unless_too_long (arrivals ins))) is

      ended : (e : GatherFault) → ReadsInputs inn a b budget (Err e) → Ends inn outs budget c a b (Err (fault_from e))
      ended (gather.Capture port at why) r = (λ m. r.uses.touches.files m (λ x. x), λ told. stop (gather.Capture port at why) (r.stops told tt))
      ended (gather.Limit kind) r = (λ m. r.uses.touches.files m (λ x. x), λ told. stop (gather.Limit kind) (r.stops told tt))
      ended gather.Read r = (λ m. r.uses.touches.files m (λ x. x), λ told. r.first told refl)
      ended gather.Memory r = λ told. inl (λ m. r.uses.touches.files m (λ x. x))

  module _ (law : TakenAreCaptures) (v : Vec (List Record) Global) (read : ReadsInputs inn a b budget (Ok v)) (d : Seen) where
    abbrev frames : List Arrival
    frames = arrivals v.items

    same_b : SameFiles a b
    same_b m = read.uses.touches.files m (λ x. x)

    told_read : IsTrue a.told → IsTrue b.told
    told_read told = subst IsTrue (sym read.uses.touches.told) told

    crosses : IsTrue a.told → is_too_long frames ≡ false → crossing budget (map (λ n. a.file n) inn) ≡ Ok frames
    crosses told short =
        ap (λ t. unless_stopped {X = List (List Record)} {Y = List Arrival} t (λ ins. unless_too_long (arrivals ins))) (read.taken told)
        ∙ ap (λ t. cond {A = Result (List Arrival) GatherFault} t (Err (gather.Limit limit.Span)) (Ok frames)) short

    too_long : IsTrue a.told → is_too_long frames ≡ true → HasStop inn budget a (gather.Limit limit.Span)
    too_long told long =
        ap (λ t. unless_stopped {X = List (List Record)} {Y = List Arrival} t (λ ins. unless_too_long (arrivals ins))) (read.taken told)
        ∙ ap (λ t. cond {A = Result (List Arrival) GatherFault} t (Err (gather.Limit limit.Span)) (Ok frames)) long

    fronts : IsTrue a.told → is_too_long frames ≡ false → (IsTrue b.told → AreOldOrFront b d outs (captures c (length outs) frames)) → HasFronts inn outs budget c a d
    fronts told short are = record { came = frames; crosses = crosses told short; outputs = fronts_since a b d same_b outs (captures c (length outs) frames) (are (told_read told)) }

    ended : (r : Result Crossed RunFault) → OverEnds outs v.items c b d r → Ends inn outs budget c a d r
    ended (Ok done) e = λ told. record { records = v.items; captures_ = law 1 budget (map (λ n. a.file n) inn) v.items (read.taken told); taken = read.taken told; crosses = crosses told e.0; outputs = e.1 (told_read told); passed_ = e.2; dropped_ = e.3 }
    ended (Err (faults.Capture port at why)) e = absurd e
    ended (Err (faults.Limit limit.Bytes)) e = absurd e
    ended (Err (faults.Limit limit.Frames)) e = absurd e
    ended (Err (faults.Limit limit.Span)) e = (λ m. e.0 m ∙ same_b m, λ told. too_long told e.1)
    ended (Err faults.Read) e = absurd e
    ended (Err faults.Write) e = λ told. fronts told e.0 e.1
    ended (Err faults.Memory) e = λ told. elim e.1 [ inl same ↦ inl (λ m. same m ∙ same_b m) | inr are ↦ inr (fronts told e.0 are) ]

    pub bridges_over : (r : Result Crossed RunFault) → RunsOver outs v.items c b d r → Bridges inn outs budget c a d r
    bridges_over r over = record {
      ends = ended r over.ends;
      uses = uses_then (Among inn) (Among outs) (end_by run_end r) a b d (input_uses Said read.uses)
          (uses_wider Nothing (Among outs) (Among inn) (Among outs) (λ m x. absurd x) (λ m x. x) (end_by run_end r) b d over.uses);
    }
