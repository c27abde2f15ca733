use Rattle.std.proofs.Common.{◌<◌, ◌∙◌, subst}
use Rattle.side_runs.proofs.CourseLemmas.{far_next, offered}
use Rattle.side_runs.proofs.course.play.Goals as goal

pub loop-place-preserved : goal.loop-place-preserved
loop-place-preserved c = record {
  own = c.in_ok-offer.ensures.own ∙ c.loop-place.invariant.own;
  far = far_next c.args.records.now c.loop-place.place c.loop-place.invariant.far;
  at = offered c.args.own c.loop-place.course.node.own c.args.start c.args.records.now c.loop-place.place c.row_at-row.result.now c.row_at-row.result.now
      c.loop-place.course.node.state c.offer.new.course.node.state c.loop-place.course.capture.items c.offer.new.course.capture.items
      c.loop-place.invariant.own (subst (λ n. c.loop-place.place < n) c.len-place-end.ensures c.loop-place-test.true) c.row_at-row.ensures c.in_ok-offer.ensures.goes c.loop-place.invariant.at;
}
