use Rattle.std.proofs.Common.{Ok, Err}
use Rattle.side_runs.proofs.FileLemmas.{played, unwritten_run, run_uses}
use Rattle.side_runs.proofs.node_run.run_node.Goals as goal

pub returns-in-Ok-write_file-clause-plays : goal.returns-in-Ok-write_file-clause-plays
returns-in-Ok-write_file-clause-plays g c = played c.args.own c.args.start c.args.from.now c.args.to.now c.args.budget _ _ c.in_ok-records.records c.in_ok-records.ensures.reads c.in-Ok.course.node.state c.in-Ok.course.capture.items c.deref.result.now
    c.in-Ok.ensures.run c.deref.ensures.value _ c.in-Ok-write_file.ensures.writes c.last_phase.result c.last_phase.ensures c.know.ensures c.runs_are_one.ensures.granted

pub returns-clause-plays : goal.returns-clause-plays
returns-clause-plays g c = unwritten_run c.args.own c.args.start c.args.from.now c.args.to.now c.args.budget _ _ c.in_ok-records.records c.in_ok-records.ensures.reads c.in-Ok.course.node.state c.in-Ok.course.capture.items c.deref.result.now
    c.in-Ok.ensures.run c.deref.ensures.value _ _ c.in-Err-write_file.ensures.writes

pub returns-in-Ok-write_file-clause-uses : goal.returns-in-Ok-write_file-clause-uses
returns-in-Ok-write_file-clause-uses g c = run_uses c.args.own c.args.start c.args.from.now c.args.to.now c.args.budget _ _ c.in_ok-records.records c.in_ok-records.ensures.reads _ _ (Ok tt) c.in-Ok-write_file.ensures.writes

pub returns-clause-uses : goal.returns-clause-uses
returns-clause-uses g c = run_uses c.args.own c.args.start c.args.from.now c.args.to.now c.args.budget _ _ c.in_ok-records.records c.in_ok-records.ensures.reads _ _ (Err c.in-Err-write_file.field-0) c.in-Err-write_file.ensures.writes
