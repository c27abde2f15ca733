use Rattle.std.proofs.Common.{◌∙◌}
use Rattle.side_runs.proofs.CourseLemmas.{small_next, told_next}
use Rattle.side_runs.proofs.course.write_frames.Goals as goal

pub loop-frame-preserved : goal.loop-frame-preserved
loop-frame-preserved c = record {
  small = small_next c.args.frames.now c.loop-frame.frame-index c.loop-frame.invariant.small;
  told = told_next c.args.moment c.args.frames.now c.loop-frame.frame-index c.view.result.now c.frame-item.result c.loop-frame.file.items c.write_record.new.out.items _
      c.loop-frame-test.true (c.view.ensures.value ∙ c.frame-item.is) c.loop-frame.invariant.told c.in_ok-write_record.ensures.ok;
}
