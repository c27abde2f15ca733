-- What follows from how `enode` ended.
use Rattle.std.proofs.Common.{◌≡◌, ℕ, List, [], append-nil, ◌++◌, ◌⊎◌, Some, Ok, Err, IsTrue, refl, sym, ap, ◌∙◌, subst, arith, inl, inr}
use Rattle.std.specs.Prelude.{Result}
use Rattle.std.specs.Str.{bytes_eq}
use Rattle.fab_base.specs.Ending.{end_by, Uses}
use Rattle.fab_base.specs.Seen.{Seen, Only}
use Rattle.fab_base.specs.Sunk.{Sunk}
use Rattle.fab_base.proofs.EndingLemmas.{rose_only}
use Rattle.pcap_file.specs.declared.Record.{Record}
use Rattle.pcap_file.specs.declared.fault.GatherFault.{GatherFault}
use Rattle.pcap_file.specs.declared.fault.GatherFault.TheVariants as gather
use Rattle.enode_core.specs.declared.node.Phase.{Phase}
use Rattle.enode_core.specs.Phases.{phase_of}
use Rattle.enode_core.specs.Runs.{Input, IsRun, stands, all_sent}
use Rattle.side_runs.specs.Course.{capture}
use Rattle.enode_core.proofs.RunLemmas.{runs_are_one}
use Rattle.side_runs.specs.NodeFiles.{IsUntaken, Same, Front, RunsNode, node_task, taken_by}
use Rattle.run_files.specs.Faults.{fault_from, run_end}
use Rattle.run_files.specs.declared.fault.RunFault.{RunFault}
use Rattle.run_files.specs.declared.fault.RunFault.TheVariants as faults
use Rattle.fabric_tool.specs.Command.{EnodeNames, Enode}
use Rattle.fabric_tool.specs.Ends.{TakesMemory, Holds, KeepsOthers}
use Rattle.fabric_tool.specs.Enode.{task_of, HasPlayed, HasEnodeFront, enode_ending, EnodeEnded, EnodeForms, EnodeSays, enode_meaning}
use Rattle.fabric_tool.specs.Inputs.{LIMITS}
use Rattle.fabric_tool.specs.Opening.{stopped_by, stood_by}
use Rattle.fabric_tool.specs.Outcome.{status_of, line_of}
use Rattle.fabric_tool.specs.declared.outcome.Outcome.{Outcome}
use Rattle.fabric_tool.specs.declared.outcome.Outcome.TheVariants as ends
use Rattle.fabric_tool.proofs.EndingLemmas.{Left, Said, IsClosed, nothing}
use Rattle.fabric_tool.proofs.Laws.{Laws, PrintsAlike, alike}
use Rattle.fabric_tool.proofs.AmongLemmas.{or_false}
use Rattle.run_files.proofs.NameLemmas.{differs}
use Rattle.fabric_tool.proofs.ConfigLemmas.{same_text}

-- the whole capture is a front of it
whole_sent : (k : EnodeNames) (old new : Seen) (last : Phase) → HasPlayed k old new last → HasEnodeFront k old new
whole_sent k old new last p =
    let whole = capture (all_sent k.own k.start p.inputs) in
    Front p.bytes p.records p.inputs p.found p.taken p.run (whole, p.output, ([], append-nil whole))

enode_front : (k : EnodeNames) (old new : Seen) (o : Outcome) → Left (enode_ending k old new o) → HasEnodeFront k old new
enode_front k old new (ends.Stood last) h = whole_sent k old new last h
enode_front k old new ends.WriteFault h = h
enode_front k old new o h = absurd h

-- the line of a last phase takes no memory
enode_closed : (k : EnodeNames) (old new : Seen) (o : Outcome) → Holds (Enode k) old new o → TakesMemory o → IsClosed (enode_ending k old new o)
enode_closed k old new (ends.Capture port at reason) h takes = tt
enode_closed k old new (ends.Limit kind) h takes = tt
enode_closed k old new o h takes = absurd (omega arith)

-- ---- where nothing fails

-- how a run over what is taken ends, and how a refusal does
abbrev EndsBy : EnodeNames → Result (List Record) GatherFault → Outcome → Type 0
EndsBy k (Ok records) o = (inputs : List Input) × IsRun k.own k.start records inputs × (o ≡ ends.Stood (phase_of (stands k.own k.start inputs)))
EndsBy k (Err fault) o = o ≡ stopped_by (fault_from fault)

-- the input names this outcome
record Names (k : EnodeNames) (d : Seen) (o : Outcome) : Type 0 where
  bytes : List ℕ
  found : d.file k.from ≡ Some bytes
  result : Result (List Record) GatherFault
  taken : taken_by LIMITS k.start bytes ≡ result
  ends_so : EndsBy k result o

module _ (k : EnodeNames) (d : Seen) where
  ended_once : (r s : Result (List Record) GatherFault) (o p : Outcome) → r ≡ s → EndsBy k r o → EndsBy k s p → o ≡ p
  ended_once (Ok xs) (Ok ys) o p e one other =
      let same : xs ≡ ys = cc in
      let inputs = runs_are_one k.own k.start ys one.0 other.0 (subst (λ l. IsRun k.own k.start l one.0) same one.1) other.1 in
      one.2 ∙ ap (λ l. ends.Stood (phase_of (stands k.own k.start l))) inputs ∙ sym other.2
  ended_once (Ok xs) (Err f) o p e one other = absurd (cc)
  ended_once (Err f) (Ok ys) o p e one other = absurd (cc)
  ended_once (Err f) (Err g) o p e one other = let same : f ≡ g = cc in one ∙ ap (λ x. stopped_by (fault_from x)) same ∙ sym other

  -- what is taken of one file is one thing
  same_taken : (a b : List ℕ) (r s : Result (List Record) GatherFault) → d.file k.from ≡ Some a → d.file k.from ≡ Some b → taken_by LIMITS k.start a ≡ r → taken_by LIMITS k.start b ≡ s → r ≡ s
  same_taken a b r s found other one again = sym one ∙ ap (taken_by LIMITS k.start) (same_text d k.from a b found other) ∙ again

  named_once : (o p : Outcome) → Names k d o → Names k d p → o ≡ p
  named_once o p one other = ended_once one.result other.result o p (same_taken one.bytes other.bytes one.result other.result one.found other.found one.taken other.taken) one.ends_so other.ends_so

  refusal : (fault : GatherFault) → IsUntaken k.start k.from LIMITS d fault → Names k d (stopped_by (fault_from fault))
  refusal fault u = record { bytes = u.bytes; found = u.found; result = Err fault; taken = u.says; ends_so = refl }

  said : (p : Outcome) → EnodeSays k d p → Names k d p
  said (ends.Stood last) says = record { bytes = says.bytes; found = says.file; result = Ok says.records; taken = says.taken; ends_so = (says.inputs, says.run, ap (λ (q : Phase). ends.Stood q) says.is) }
  said (ends.Capture port at why) says = refusal (gather.Capture port at why) says
  said (ends.Limit kind) says = refusal (gather.Limit kind) says
  said p says = absurd says

  module _ (new : Seen) (told : IsTrue d.told) where
    -- an outcome is what the input names, or want of memory
    ended : (o : Outcome) → Said d (enode_ending k d new o) → Names k d o ⊎ (o ≡ ends.Memory)
    ended (ends.Stood last) h = let p = h told in inl (record { bytes = p.bytes; found = p.found; result = Ok p.records; taken = p.taken; ends_so = (p.inputs, p.run, ap (λ (q : Phase). ends.Stood q) p.stands_so) })
    ended (ends.Capture port at why) h = inl (refusal (gather.Capture port at why) (h told))
    ended (ends.Limit kind) h = inl (refusal (gather.Limit kind) (h told))
    ended ends.Memory h = inr refl
    ended o h = absurd h

    enode_once : (o p : Outcome) → Said d (enode_ending k d new o) → EnodeSays k d p → PrintsAlike o p ⊎ (o ≡ ends.Memory)
    enode_once o p holds says = elim (ended o holds) [ inl names ↦ inl (alike o p (named_once o p names (said p says))) | inr memory ↦ inr memory ]

    -- a run ends with status 0
    stood : (r : Result (List Record) GatherFault) (records : List Record) (o : Outcome) → r ≡ Ok records → EndsBy k r o → status_of o ≡ 0
    stood (Ok xs) records o e at = ap status_of at.2
    stood (Err fault) records o e at = absurd (cc)

    enode_formed : EnodeForms k d → (o : Outcome) → Said d (enode_ending k d new o) → (status_of o ≡ 0) ⊎ (o ≡ ends.Memory)
    enode_formed forms o holds = elim (ended o holds) [
      | inl names ↦ inl (stood names.result forms.records o (same_taken names.bytes forms.bytes names.result (Ok forms.records) names.found forms.file names.taken forms.taken) names.ends_so)
      | inr memory ↦ inr memory
    ]

-- ---- the laws

done_enode : (k : EnodeNames) (old new : Seen) (before after : Sunk) (o : Outcome) → status_of o ≡ 0 → Holds (Enode k) old new o → (IsTrue before.told → after.written ≡ before.written ++ line_of o) → IsTrue old.told → EnodeEnded k old new before after
unfolding line_of
done_enode k old new before after (ends.Stood last) is h printed = λ told. record { last = last; done = h.1 told; printed = printed }
done_enode k old new before after o is h printed = absurd (omega arith)

pub enode_laws : (k : EnodeNames) → Laws (enode_meaning k)
enode_laws k = record {
  same = λ old new files. Same (files k.to);
  whole = enode_front k;
  spare = λ old new o h takes. nothing (enode_meaning k) old new (enode_ending k old new o) (enode_closed k old new o h takes) h;
  done = done_enode k;
  once = λ old new o p told. enode_once k old new told o p;
  formed = λ old new o forms. enode_formed k old new forms.told forms o;
}

-- ---- the call

module _ (k : EnodeNames) (a b : Seen) where
  keeps : ((m : List ℕ) → ¬ Only k.to m → b.file m ≡ a.file m) → KeepsOthers (Enode k) a b
  keeps others m none = others m (λ e. differs k.to m (or_false (bytes_eq k.to m) _ none).0 (sym e))

  ran : (r : Result Phase RunFault) → RunsNode (task_of k) a b r → Uses (Only k.from) (Only k.to) (end_by run_end r) a b → Holds (Enode k) a b (stood_by r)
  ran (Ok last) runs u = (keeps u.touches.files, runs, u.counts)
  ran (Err (faults.Capture port at why)) runs u = (runs.0, runs.1, u.counts)
  ran (Err (faults.Limit kind)) runs u = (runs.0, runs.1, u.counts)
  ran (Err faults.Read) runs u = (runs, λ told. tt, ((k.from, inl refl, rose_only k.from a.read_faults b.read_faults u.counts.0), u.counts.1))
  ran (Err faults.Write) runs u = (keeps u.touches.files, runs, ((k.to, inl refl, rose_only k.to a.write_faults b.write_faults u.counts.0), u.counts.1))
  ran (Err faults.Memory) runs u = (runs, λ told. tt, u.counts)

-- the files that words name
pub ran_as : (from to : List ℕ) (k : EnodeNames) (a b : Seen) (r : Result Phase RunFault) (o : Outcome) → from ≡ k.from → to ≡ k.to →
    RunsNode (node_task k.own k.start from to LIMITS) a b r → Uses (Only from) (Only to) (end_by run_end r) a b → o ≡ stood_by r → Holds (Enode k) a b o
ran_as from to k a b r o from_is to_is runs uses is =
    let there = subst (λ l. RunsNode (node_task k.own k.start k.from l LIMITS) a b r) to_is (subst (λ l. RunsNode (node_task k.own k.start l to LIMITS) a b r) from_is runs) in
    let used = subst (λ l. Uses (Only k.from) (Only l) (end_by run_end r) a b) to_is (subst (λ l. Uses (Only l) (Only to) (end_by run_end r) a b) from_is uses) in
    subst (Holds (Enode k) a b) (sym is) (ran k a b r there used)
