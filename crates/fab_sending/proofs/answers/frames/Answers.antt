use Rattle.fc_frames.specs.declared.Piece.{Piece}
use Rattle.std.proofs.Common.{false}
use Rattle.fab_sending.proofs.FrameMade.{framed_more}
use Rattle.fab_sending.proofs.answers.frames.Goals as goal

pub loop-count-preserved : goal.loop-count-preserved
loop-count-preserved c =
    let none : Piece = record { from = 0; to = 0; last = false } in
    framed_more c.args.port c.args.moment c.args.to c.args.bytes.now c.loop-count.count c.args.ranges.now none _ _ c.loop-count.outs _ c.loop-count-test.true c.loop-count.invariant
    (c.requires.within c.loop-count.count none c.loop-count-test.true).0 c.in_ok-payload.ensures c.in_ok-push.ensures.ok
