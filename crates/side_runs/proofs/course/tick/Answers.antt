use Rattle.std.proofs.lemmas.Result.{on_ok_weaker}
use Rattle.side_runs.proofs.CourseLemmas.{timer_goes}
use Rattle.side_runs.proofs.course.tick.Goals as goal

pub returns-clause-goes : goal.returns-clause-goes
returns-clause-goes c = on_ok_weaker c.write_frames.result (λ grown start ins left r h is_due.
    timer_goes c.args.course.now.node.own start ins r left c.args.course.now.node.state c.timer.new.self.state c.args.course.now.capture.items c.write_frames.new.file.items
    c.new-frames.result.items c.timer.new.out.items c.deref.result.now c.due-moment.result c.new-frames.ensures.items c.in_ok-timer.ensures.ok c.deref.ensures.value c.due-moment.ensures grown h is_due)
    c.write_frames.ensures
