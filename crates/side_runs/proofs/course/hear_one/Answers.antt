use Rattle.std.proofs.lemmas.Result.{on_ok_weaker}
use Rattle.side_runs.proofs.CourseLemmas.{heard_goes}
use Rattle.side_runs.proofs.course.hear_one.Goals as goal

pub returns-clause-goes : goal.returns-clause-goes
returns-clause-goes c = on_ok_weaker c.write_frames.result (λ grown start ins left h.
    heard_goes c.args.course.now.node.own start ins c.args.row.now left c.args.course.now.node.state c.frame.new.self.state c.args.course.now.capture.items c.write_frames.new.file.items
    c.new-frames.result.items c.frame.new.out.items c.deref.result.now c.new-frames.ensures.items c.in_ok-frame.ensures.ok c.deref.ensures.value grown h c.requires.due)
    c.write_frames.ensures
