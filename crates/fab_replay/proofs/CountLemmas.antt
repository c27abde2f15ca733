-- What is counted along a check.
use Rattle.std.proofs.Common.{◌≡◌, ℕ, List, Result, refl, sym, ap, ◌∙◌, subst}
use Rattle.std.specs.Result.{IsErrAnd}
use Rattle.fab_base.specs.Ending.{NoFaults, end_by, SparesReads, Uses}
use Rattle.fab_base.specs.Seen.{Seen, Nothing, SameWriteFaults}
use Rattle.fab_base.proofs.EndingLemmas.{spares_none, spares_reads_then}
use Rattle.pcap_file.specs.Faults.{gather_end}
use Rattle.pcap_file.specs.declared.fault.GatherFault.{GatherFault}
use Rattle.pcap_file.specs.declared.fault.GatherFault.TheVariants as gather_fault
use Rattle.window_records.proofs.UsesLemmas.{uses_spares, uses_writes}
use Rattle.fab_replay.specs.Counts.{check_end}
use Rattle.fab_replay.specs.Windows.{check_fault}
use Rattle.fab_replay.specs.declared.fault.CheckFault.{CheckFault}
use Rattle.fab_replay.proofs.ResultLemmas.{err_is}

-- nothing was called
pub counts_none : {T : Type 0} (a : Seen) (r : Result T CheckFault) → SparesReads (end_by check_end r) a a × SameWriteFaults a a
counts_none a r = (spares_none (end_by check_end r) a, λ m. refl)

-- what counted none, and then the rest
pub counts_then : {T : Type 0} (a b d : Seen) (r : Result T CheckFault) → NoFaults a b → SparesReads (end_by check_end r) b d × SameWriteFaults b d → SparesReads (end_by check_end r) a d × SameWriteFaults a d
counts_then a b d r none t = (spares_reads_then (end_by check_end r) a b d none.0 t.0, λ m. t.1 m ∙ none.1 m)

-- a fault that is handed on
pub counts_on : {T : Type 0} (a b : Seen) (e : CheckFault) (r : Result T CheckFault) → IsErrAnd r (λ x. x ≡ e) → SparesReads (check_end e) a b × SameWriteFaults a b → SparesReads (end_by check_end r) a b × SameWriteFaults a b
counts_on a b e r is h = subst (λ y. SparesReads (end_by check_end y) a b × SameWriteFaults a b) (err_is r e is) h

-- a fault of gathering
same_end : (f : GatherFault) → check_end (check_fault f) ≡ gather_end f
same_end (gather_fault.Capture port at why) = refl
same_end (gather_fault.Limit kind) = refl
same_end gather_fault.Read = refl
same_end gather_fault.Memory = refl

pub counts_gathering : (reads : List ℕ → Type 0) (a b : Seen) (f : GatherFault) (e : CheckFault) → e ≡ check_fault f → Uses reads Nothing (gather_end f) a b → SparesReads (check_end e) a b × SameWriteFaults a b
counts_gathering reads a b f e is u = (subst (λ end. SparesReads end a b) (sym (ap check_end is ∙ same_end f)) (uses_spares reads (gather_end f) a b u), uses_writes reads (gather_end f) a b u)
