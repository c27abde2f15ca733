use Rattle.std.proofs.Common.{◌∙◌, ◌≡◌, ◌≤◌, [], Ok, Err, sym, subst, arith, length, drop}
use Rattle.window_records.specs.Ports.{AreInputs}
use Rattle.fab_replay.specs.Lines.{IsInside}
use Rattle.fab_replay.specs.Owed.{AreMany, ReadsOut}
use Rattle.fab_replay.specs.Windows.{Ends}
use Rattle.fab_replay.proofs.CountLemmas.{counts_none, counts_on, counts_then}
use Rattle.fab_replay.proofs.GoLemmas.{ends_behind, ends_out, ends_well, going_on, outputs_now}
use Rattle.fab_replay.proofs.ResultLemmas.{err_is}
use Rattle.fab_replay.proofs.check.check_begun.Goals as goal

pub check_windows-requires : goal.check_windows-requires
check_windows-requires g c =
    let k = c.requires.going.0 in
    let same = c.requires.going.1 in
    let going = c.requires.going.2 in
    record { going = (k, same, going_on c.deref_mut.ensures.value going) }

pub returns-in_err-check_windows-clause-ends : goal.returns-in_err-check_windows-clause-ends
returns-in_err-check_windows-clause-ends g c = λ k same going.
    let seen = g.D.Depot.seen in
    subst (Ends k (seen c.check_windows.new.depot) c.check_windows.new.fabric) (err_is c.from_residual.result c.in_err-check_windows.field-0.0 c.from_residual.ensures.1)
    (c.in_err-check_windows.ensures.turns k same (going_on c.deref_mut.ensures.value going))

pub check_end-requires : goal.check_end-requires
check_end-requires g c =
    let k = c.requires.going.0 in
    let same = c.requires.going.1 in
    let going = c.requires.going.2 in
    let t = c.in_ok-check_windows.ensures.turns k same (going_on c.deref_mut.ensures.value going) in
    record { inside = subst (λ l. IsInside l c.check_windows.new.course.place) same.journal t.1.inside }

pub returns-in_err-check_end-clause-ends : goal.returns-in_err-check_end-clause-ends
returns-in_err-check_end-clause-ends g c = λ k same going.
    let seen = g.D.Depot.seen in
    let t = c.in_ok-check_windows.ensures.turns k same (going_on c.deref_mut.ensures.value going) in
    let n = c.check_windows.new in
    let e = c.in_err-check_end.field-0.0 in
    let end = c.in_err-check_end.ensures in
    subst (Ends k (seen n.depot) n.fabric) (err_is c.from_residual-in_err-check_end.result e c.from_residual-in_err-check_end.ensures.1)
    (ends_behind c.laws_of_windows.ensures k t.0 _ t.1 t.2 e end.only (λ x J F is. end.checks x J F (is ∙ same.journal)) (λ x told J F is. end.left x told J F (is ∙ same.journal)))

pub read_out-requires : goal.read_out-requires
read_out-requires g c =
    let seen = g.D.Depot.seen in
    let k = c.requires.going.0 in
    let same = c.requires.going.1 in
    let going = c.requires.going.2 in
    let t = c.in_ok-check_windows.ensures.turns k same (going_on c.deref_mut.ensures.value going) in
    let n = c.check_windows.new in
    let few = going.outputs in
    let ports = going.ports in
    record {
      many = subst (λ l. AreMany (length l) n.course.owed) same.outputs t.1.many;
      ports = subst (λ l. length l ≤ 64) same.outputs (omega (arith, few, ports));
      inputs = subst (AreInputs (seen n.depot)) same.outputs (outputs_now c.laws_of_windows.ensures k t.0 _ t.1);
    }

pub returns-in_err-read_out-clause-ends : goal.returns-in_err-read_out-clause-ends
returns-in_err-read_out-clause-ends g c = λ k same going.
    let seen = g.D.Depot.seen in
    let t = c.in_ok-check_windows.ensures.turns k same (going_on c.deref_mut.ensures.value going) in
    let n = c.check_windows.new in
    let d = seen c.read_out.new.depot in
    let e = c.in_err-read_out.field-0.0 in
    subst (Ends k d n.fabric) (err_is c.from_residual-in_err-read_out.result e c.from_residual-in_err-read_out.ensures.1)
    (ends_out c.laws_of_windows.ensures k t.0 _ t.1 t.2 (λ x J F is stop h left tick. subst (λ l. drop n.course.place.at l ≡ []) (sym same.journal) (c.in_ok-check_end.ensures.checks x J F (is ∙ same.journal) stop h left tick)) d e
    (subst (λ l. ReadsOut l (seen n.depot) d n.course.owed (Err e)) (sym same.outputs) c.in_err-read_out.ensures.reads))

pub returns-clause-ends : goal.returns-clause-ends
returns-clause-ends g c = λ k same going.
    let seen = g.D.Depot.seen in
    let t = c.in_ok-check_windows.ensures.turns k same (going_on c.deref_mut.ensures.value going) in
    let n = c.check_windows.new in
    let d = seen c.read_out.new.depot in
    ends_well c.laws_of_windows.ensures k t.0 _ t.1 t.2 (λ x J F is stop h left tick. subst (λ l. drop n.course.place.at l ≡ []) (sym same.journal) (c.in_ok-check_end.ensures.checks x J F (is ∙ same.journal) stop h left tick)) d (subst (λ l. ReadsOut l (seen n.depot) d n.course.owed (Ok tt)) (sym same.outputs) c.in_ok-read_out.ensures.reads)

-- ---- counts of faults

pub returns-in_err-check_windows-clause-counts : goal.returns-in_err-check_windows-clause-counts
returns-in_err-check_windows-clause-counts g c =
    let seen = g.D.Depot.seen in
    counts_on (seen c.args.depot.now) (seen c.check_windows.new.depot) c.in_err-check_windows.field-0.0 c.from_residual.result c.from_residual.ensures.1 c.in_err-check_windows.ensures.counts

pub returns-in_err-check_end-clause-counts : goal.returns-in_err-check_end-clause-counts
returns-in_err-check_end-clause-counts g c =
    let seen = g.D.Depot.seen in
    let d = seen c.check_windows.new.depot in
    let r = c.from_residual-in_err-check_end.result in
    counts_then (seen c.args.depot.now) d d r c.in_ok-check_windows.ensures.counts (counts_none d r)

pub returns-in_err-read_out-clause-counts : goal.returns-in_err-read_out-clause-counts
returns-in_err-read_out-clause-counts g c =
    let seen = g.D.Depot.seen in
    let b = seen c.check_windows.new.depot in
    let d = seen c.read_out.new.depot in
    let r = c.from_residual-in_err-read_out.result in
    counts_then (seen c.args.depot.now) b d r c.in_ok-check_windows.ensures.counts (counts_on b d c.in_err-read_out.field-0.0 r c.from_residual-in_err-read_out.ensures.1 c.in_err-read_out.ensures.reads.counts)

pub returns-clause-counts : goal.returns-clause-counts
returns-clause-counts g c =
    let seen = g.D.Depot.seen in
    let b = seen c.check_windows.new.depot in
    let d = seen c.read_out.new.depot in
    counts_then {T = Unit {0}} (seen c.args.depot.now) b d (Ok tt) c.in_ok-check_windows.ensures.counts c.in_ok-read_out.ensures.reads.counts
