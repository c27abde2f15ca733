-- A node over files: the input is read whole, and then the output is written.
use Rattle.std.proofs.Common.{◌≡◌, ℕ, Bool, true, false, cond, IsTrue, List, [], ◌∷◌, take, drop, Some, Ok, Err, inl, inr, refl, sym, ap, ◌∙◌, subst, arith}
use Rattle.std.proofs.lemmas.List.{take-append-drop}
use Rattle.std.specs.Prelude.{Result}
use Rattle.fab_base.specs.Ending as ending
use Rattle.fab_base.specs.Ending.{End, end_by, Uses, IsOldOrFront}
use Rattle.fab_base.specs.Seen.{Seen, SameFiles, Nothing, Only, OpensIn, OpensOut, PutsAll}
use Rattle.fab_base.specs.declared.values.Failed.{Failed}
use Rattle.fab_base.proofs.SeenLemmas.{told_stays}
use Rattle.fab_base.proofs.EndingLemmas.{uses_refused, uses_then, uses_wider, opens_in_uses, opens_out_uses, puts_all_uses}
use Rattle.pcap_file.specs.declared.Budget.{Budget}
use Rattle.pcap_file.specs.declared.Record.{Record}
use Rattle.pcap_file.specs.Faults.{gather_end}
use Rattle.pcap_file.specs.declared.fault.LimitKind.TheVariants as limit
use Rattle.pcap_file.specs.declared.fault.GatherFault.{GatherFault}
use Rattle.pcap_file.specs.declared.fault.GatherFault.TheVariants as gather
use Rattle.run_files.specs.Faults.{fault_from, run_end}
use Rattle.run_files.proofs.FaultLemmas.{same_end}
use Rattle.run_files.specs.declared.fault.RunFault.{RunFault}
use Rattle.run_files.specs.declared.fault.RunFault.TheVariants as faults
use Rattle.pcap_file.specs.Captures.{Taken, ReadsCapture, AreFit, unless_stopped, capture_by}
use Rattle.enode_core.specs.declared.node.Identity.{Identity}
use Rattle.enode_core.specs.declared.node.Phase.{Phase}
use Rattle.enode_core.specs.declared.node.State.{State}
use Rattle.side_runs.specs.Course.{AreFar, IsAt}
use Rattle.enode_core.specs.Laws.{IsTyped}
use Rattle.enode_core.specs.Phases.{phase_of}
use Rattle.enode_core.specs.RunLaws.{RunsAreGranted}
use Rattle.enode_core.specs.Runs.{is_too_long}
use Rattle.side_runs.specs.NodeFiles as files
use Rattle.side_runs.specs.NodeFiles.{RunsNode, node_task, unless_too_long}
use Rattle.side_runs.specs.NodeSteps as steps
use Rattle.side_runs.specs.NodeSteps.{ReadsInput, WritesFile}

-- ---- the input

-- moments that were read can be written
far : (records : List Record) → AreFit records → AreFar records
far [] h = tt
far (r ∷ records) h = (omega (arith, h.0), far records h.2)

module _ (start : ℕ) (from : List ℕ) (budget left : Budget) (port slot : ℕ) (is_one : port ≡ 1) (a b c : Seen) (opens : OpensIn {E = Failed} from a b (Ok slot)) where
  is_name : b.name slot ≡ from
  is_name = opens.opened.2

  told_b : IsTrue a.told → IsTrue b.told
  told_b told = told_stays from a b opens.reads.keeps told

  uses : (r : Result (List Record) GatherFault) → ReadsCapture port slot b c budget left r → Uses (Only from) Nothing (end_by gather_end r) a c
  uses r h = uses_then (Only from) Nothing (end_by gather_end r) a b c (opens_in_uses a b from (Ok slot) opens) (subst (λ n. Uses (Only n) Nothing (end_by gather_end r) b c) is_name h.uses)

  says : (r : Result Taken GatherFault) → capture_by port budget (b.left slot) ≡ r → files.taken_by budget start (b.left slot) ≡ unless_stopped r (λ t. unless_too_long start t.records)
  says r e = ap (λ x. unless_stopped x (λ t. unless_too_long start t.records)) (ap (λ p. capture_by p budget (b.left slot)) (sym is_one) ∙ e)

  refused : (fault : GatherFault) → ReadsCapture port slot b c budget left (Err fault) → ReadsInput start from budget a c (Err fault)
  refused fault h = record {
    uses = uses (Err fault) h;
    far = tt;
    taken = λ told. tt;
    stops = λ told stopped. record { bytes = b.left slot; found = opens.left told; says = says (Err fault) (h.stops (told_b told) stopped) };
  }

  read : (records : List Record) → ReadsCapture port slot b c budget left (Ok records) → (r : Result (List Record) GatherFault) → r ≡ unless_too_long start records → ReadsInput start from budget a c r
  read records h r e = subst (λ x. ReadsInput start from budget a c x) (sym e) (by_test (is_too_long start records) refl)
    where
      taken_so : IsTrue a.told → (t : Bool) → is_too_long start records ≡ t → files.taken_by budget start (b.left slot) ≡ cond t (Err (gather.Limit limit.Span)) (Ok records)
      taken_so told t is = says (Ok (record { records = records; left = left })) (h.taken (told_b told)) ∙ ap (λ x. cond x (Err (gather.Limit limit.Span)) (Ok records)) is

      by_test : (t : Bool) → is_too_long start records ≡ t → ReadsInput start from budget a c (cond t (Err (gather.Limit limit.Span)) (Ok records))
      by_test true is = record {
        uses = uses (Ok records) h;
        far = tt;
        taken = λ told. tt;
        stops = λ told stopped. record { bytes = b.left slot; found = opens.left told; says = taken_so told true is };
      }
      by_test false is = record {
        uses = uses (Ok records) h;
        far = far records h.fit.0;
        taken = λ told. record { bytes = b.left slot; found = opens.left told; says = taken_so told false is };
        stops = λ told. tt;
      }

  -- what was read, or why it couldn't be
  pub taken : (x : Result (List Record) GatherFault) → ReadsCapture port slot b c budget left x → (r : Result (List Record) GatherFault) → r ≡ unless_stopped x (unless_too_long start) → ReadsInput start from budget a c r
  taken (Ok records) h r e = read records h r e
  taken (Err fault) h r e = subst (λ x. ReadsInput start from budget a c x) (sym e) (refused fault h)

pub unopened : (start : ℕ) (from : List ℕ) (budget : Budget) (a b : Seen) (failed : Failed) → OpensIn {E = Failed} from a b (Err failed) → ReadsInput start from budget a b (Err gather.Read)
unopened start from budget a b failed o = record { uses = opens_in_uses a b from (Err failed) o; far = tt; taken = λ told. tt; stops = λ told stopped. absurd stopped }

-- ---- the output

module _ (to bytes : List ℕ) (out : ℕ) (a b c : Seen) (opens : OpensOut {E = Failed} to a b (Ok out)) where
  is_out : b.name out ≡ to
  is_out = opens.opened.2

  told_out : IsTrue a.told → IsTrue b.told
  told_out told = told_stays to a b opens.keeps told

  written : (r : Result (Unit {0}) Failed) → PutsAll {T = Unit {0}} {E = Failed} out bytes b c r → Uses Nothing (Only to) (end_by (λ e. ending.Write) r) a c
  written r p = uses_then Nothing (Only to) (end_by (λ e. ending.Write) r) a b c (opens_out_uses a b to (Ok out) opens) (subst (λ n. Uses Nothing (Only n) (end_by (λ e. ending.Write) r) b c) is_out (puts_all_uses b c out bytes r p))

  empty : IsTrue a.told → b.file (b.name out) ≡ Some []
  empty told = ap b.file is_out ∙ opens.emptied told

  pub wrote : PutsAll {T = Unit {0}} {E = Failed} out bytes b c (Ok tt) → WritesFile {T = Unit {0}} {E = Failed} to bytes a c (Ok tt)
  wrote p = record {
    uses = written (Ok tt) p;
    whole = λ told. subst (λ n. c.file n ≡ Some bytes) is_out (p.grown (told_out told) [] (empty told));
    part = λ told. tt;
  }

  pub wrote_part : (failed : Failed) → PutsAll {T = Unit {0}} {E = Failed} out bytes b c (Err failed) → WritesFile {T = Unit {0}} {E = Failed} to bytes a c (Err failed)
  wrote_part failed p = record {
    uses = written (Err failed) p;
    whole = λ told. tt;
    part = λ told. let part = p.part (told_out told) [] (empty told) in inr (take part.0 bytes, subst (λ n. c.file n ≡ Some (take part.0 bytes)) is_out part.1, (drop part.0 bytes, take-append-drop part.0 bytes));
  }

pub unwritten : (to bytes : List ℕ) (a b : Seen) (failed : Failed) → OpensOut {E = Failed} to a b (Err failed) → WritesFile {T = Unit {0}} {E = Failed} to bytes a b (Err failed)
unwritten to bytes a b failed o = record {
  uses = opens_out_uses a b to (Err failed) o;
  whole = λ told. tt;
  part = λ told. inl o.same;
}

-- ---- the run

module _ (own : Identity) (start : ℕ) (from to : List ℕ) (budget : Budget) (a b : Seen) where
  same : {end : End} → Uses (Only from) Nothing end a b → SameFiles a b
  same h m = h.touches.files m (λ x. x)

  -- the input alone was used
  input_uses : (end : End) → Uses (Only from) Nothing end a b → Uses (Only from) (Only to) end a b
  input_uses end = uses_wider (Only from) Nothing (Only from) (Only to) (λ m x. x) (λ m x. absurd x) end a b

  -- an input that isn't taken
  stopped_by : (g : GatherFault) → ReadsInput start from budget a b (Err g) → RunsNode (node_task own start from to budget) a b (Err (fault_from g))
  stopped_by (gather.Capture port at why) h = (same h.uses, λ told. h.stops told tt)
  stopped_by (gather.Limit kind) h = (same h.uses, λ told. h.stops told tt)
  stopped_by gather.Read h = same h.uses
  stopped_by gather.Memory h = same h.uses

  pub stopped : (g : GatherFault) (e : RunFault) → e ≡ fault_from g → ReadsInput start from budget a b (Err g) → RunsNode (node_task own start from to budget) a b (Err e)
  stopped g e is h = subst (λ x. RunsNode (node_task own start from to budget) a b (Err x)) (sym is) (stopped_by g h)

  pub stopped_uses : (g : GatherFault) (e : RunFault) → e ≡ fault_from g → ReadsInput start from budget a b (Err g) → Uses (Only from) (Only to) (run_end e) a b
  stopped_uses g e is h = input_uses (run_end e) (subst (λ end. Uses (Only from) Nothing end a b) (sym (ap run_end is ∙ same_end g)) h.uses)

  module _ (records : List Record) (h : ReadsInput start from budget a b (Ok records)) where
    pub no_room : RunsNode (node_task own start from to budget) a b (Err faults.Memory)
    no_room = same h.uses

    pub no_room_uses : Uses (Only from) (Only to) ending.Memory a b
    no_room_uses = uses_refused (Only from) (Only to) a b (input_uses ending.Said h.uses)

    told_then : IsTrue a.told → IsTrue b.told
    told_then told = subst IsTrue (sym h.uses.touches.told) told

    pub run_uses : (bytes : List ℕ) (c : Seen) (r : Result (Unit {0}) Failed) → WritesFile {T = Unit {0}} {E = Failed} to bytes b c r → Uses (Only from) (Only to) (end_by (λ e. ending.Write) r) a c
    run_uses bytes c r w = uses_then (Only from) (Only to) (end_by (λ e. ending.Write) r) a b c (input_uses ending.Said h.uses)
        (uses_wider Nothing (Only to) (Only from) (Only to) (λ m x. absurd x) (λ m x. x) (end_by (λ e. ending.Write) r) b c w.uses)

    module _ (s : State) (file bytes : List ℕ) (at : IsAt own start records [] s file) (is_file : bytes ≡ file) (c : Seen) where
      pub played : WritesFile {T = Unit {0}} {E = Failed} to bytes b c (Ok tt) → (phase : Phase) → phase ≡ phase_of s → IsTyped own → RunsAreGranted → RunsNode (node_task own start from to budget) a c (Ok phase)
      played w phase is typed granted = λ told.
          let t = h.taken told in
          record {
            bytes = t.bytes;
            records = records;
            inputs = at.given;
            found = t.found;
            taken = t.says;
            run = at.begins;
            output = w.whole (told_then told) ∙ ap (λ (l : List ℕ). Some l) (is_file ∙ at.holds);
            stands_so = is ∙ ap phase_of at.stands_so;
            granted = granted own start records at.given typed at.begins;
          }

      front : IsOldOrFront b c to bytes → IsTrue a.told → files.IsFront (node_task own start from to budget) a c
      front (inl e) told = files.Same (e ∙ same h.uses to)
      front (inr some) told =
          let t = h.taken told in
          files.Front t.bytes records at.given t.found t.says at.begins (some.0, some.1, (some.2.0, some.2.1 ∙ is_file ∙ at.holds))

      pub unwritten_run : (failed : Failed) → WritesFile {T = Unit {0}} {E = Failed} to bytes b c (Err failed) → RunsNode (node_task own start from to budget) a c (Err faults.Write)
      unwritten_run failed w = λ told. front (w.part (told_then told)) told
