use Rattle.std.proofs.Common.{Option, ap, refl, subst, sym}
use Rattle.std.specs.Prelude.{IfSome, ◌≤◌, ℕ}
use Rattle.fab_policy.specs.Outputs.{State}
use Rattle.window_records.specs.Looks.{all_records}
use Rattle.fab_replay.specs.Check.{captures_in, matter_of, task_of}
use Rattle.fab_replay.specs.Windows.{Ends}
use Rattle.fab_replay.proofs.CountLemmas.{counts_on, counts_then}
use Rattle.fab_replay.proofs.NothingLemmas.{checks_nothing, leaves_nothing, length-none, none_told}
use Rattle.fab_replay.proofs.ResultLemmas.{err_is}
use Rattle.fab_replay.proofs.check.check_captures.Goals as goal

pub returns-in_err-begun-clause-checks : goal.returns-in_err-begun-clause-checks
returns-in_err-begun-clause-checks g c =
    let seen = g.D.Depot.seen in
    let F = c.args.fabric.now in
    let k = task_of F.settings c.args.budget.now c.args.ins.now (seen c.args.depot.now) c.args.journal.now c.args.outs.now in
    let begins = c.in_err-begun.ensures.begins k.from c.requires.state (length-none (seen c.args.depot.now) c.args.ins.now) in
    checks_nothing k (seen c.look_first.new.depot) F c.from_residual.result refl refl (subst (Ends k (seen c.look_first.new.depot) F) (err_is c.from_residual.result c.in_err-begun.field-0.0 c.from_residual.ensures.1) begins).checks

pub check_begun-requires : goal.check_begun-requires
check_begun-requires g c =
    let seen = g.D.Depot.seen in
    let F = c.args.fabric.now in
    let k = task_of F.settings c.args.budget.now c.args.ins.now (seen c.args.depot.now) c.args.journal.now c.args.outs.now in
    record {
      going = (
        k,
        record { journal = refl; firsts = none_told (all_records (captures_in k)); outputs = refl },
        c.in_ok-begun.ensures.begins k.from c.requires.state (length-none (seen c.args.depot.now) c.args.ins.now) (λ v is. subst (λ (o : Option ℕ). IfSome o (λ t. t ≤ v)) (sym (ap (λ (S : State). S.tables.clock) c.requires.state)) tt),
      );
    }

pub returns-clause-checks : goal.returns-clause-checks
returns-clause-checks g c =
    let seen = g.D.Depot.seen in
    let F = c.args.fabric.now in
    let k = task_of F.settings c.args.budget.now c.args.ins.now (seen c.args.depot.now) c.args.journal.now c.args.outs.now in
    let going =
    c.in_ok-begun.ensures.begins k.from c.requires.state (length-none (seen c.args.depot.now) c.args.ins.now) (λ v is. subst (λ (o : Option ℕ). IfSome o (λ t. t ≤ v)) (sym (ap (λ (S : State). S.tables.clock) c.requires.state)) tt) in
    checks_nothing k (seen c.check_begun.new.depot) c.check_begun.new.fabric c.check_begun.result refl c.check_begun.ensures.settings
    (c.check_begun.ensures.ends k (record { journal = refl; firsts = none_told (all_records (captures_in k)); outputs = refl }) going).checks

pub returns-in_err-begun-clause-leaves : goal.returns-in_err-begun-clause-leaves
returns-in_err-begun-clause-leaves g c =
    let seen = g.D.Depot.seen in
    let F = c.args.fabric.now in
    let k = task_of F.settings c.args.budget.now c.args.ins.now (seen c.args.depot.now) c.args.journal.now c.args.outs.now in
    let begins = c.in_err-begun.ensures.begins k.from c.requires.state (length-none (seen c.args.depot.now) c.args.ins.now) in
    leaves_nothing k.settings k.start.left (matter_of k) (seen c.args.depot.now).told F c.from_residual.result refl
    (subst (Ends k (seen c.look_first.new.depot) F) (err_is c.from_residual.result c.in_err-begun.field-0.0 c.from_residual.ensures.1) begins).leaves

pub returns-clause-leaves : goal.returns-clause-leaves
returns-clause-leaves g c =
    let seen = g.D.Depot.seen in
    let F = c.args.fabric.now in
    let k = task_of F.settings c.args.budget.now c.args.ins.now (seen c.args.depot.now) c.args.journal.now c.args.outs.now in
    let going =
    c.in_ok-begun.ensures.begins k.from c.requires.state (length-none (seen c.args.depot.now) c.args.ins.now) (λ v is. subst (λ (o : Option ℕ). IfSome o (λ t. t ≤ v)) (sym (ap (λ (S : State). S.tables.clock) c.requires.state)) tt) in
    leaves_nothing k.settings k.start.left (matter_of k) (seen c.args.depot.now).told c.check_begun.new.fabric c.check_begun.result c.check_begun.ensures.settings
    (c.check_begun.ensures.ends k (record { journal = refl; firsts = none_told (all_records (captures_in k)); outputs = refl }) going).leaves

-- ---- counts of faults

pub returns-in_err-begun-clause-counts : goal.returns-in_err-begun-clause-counts
returns-in_err-begun-clause-counts g c =
    let seen = g.D.Depot.seen in
    counts_on (seen c.args.depot.now) (seen c.look_first.new.depot) c.in_err-begun.field-0.0 c.from_residual.result c.from_residual.ensures.1 c.in_err-begun.ensures.counts

pub returns-clause-counts : goal.returns-clause-counts
returns-clause-counts g c =
    let seen = g.D.Depot.seen in
    counts_then (seen c.args.depot.now) (seen c.look_first.new.depot) (seen c.check_begun.new.depot) c.check_begun.result c.in_ok-begun.ensures.counts c.check_begun.ensures.counts
