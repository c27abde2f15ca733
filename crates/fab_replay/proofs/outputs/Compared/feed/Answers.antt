use Rattle.std.proofs.Common.{◌+◌, ◌-◌, arith}
use Rattle.fab_replay.proofs.OutputLemmas.{goes_on_by, feeds_fault}
use Rattle.fab_replay.proofs.outputs.Compared.feed.Goals as goal

pub loop-done-preserved : goal.loop-done-preserved
loop-done-preserved g c =
    let i = c.loop-done.invariant in
    record {
      on = goes_on_by c.args.slot c.loop-done.done c.min-count.result (c.loop-done.done + c.min-count.result - c.loop-done.done) c.args.wanted.now _ _ _ c.args.self.now c.loop-done.self c.meet.new.self c.requires.input i.on (omega arith) c.in_ok-meet.ensures.feeds;
      bound = omega (arith, i.bound, c.min-count.ensures);
    }

pub returns-in_err-meet : goal.returns-in_err-meet
returns-in_err-meet g c =
    let seen = g.D.Depot.seen in
    record {
      feeds = feeds_fault c.args.slot c.loop-done.done c.args.wanted.now _ (seen c.args.depot.now) (seen c.loop-done.depot) (seen c.meet.new.depot) c.args.self.now c.loop-done.self c.meet.new.self c.from_residual.result c.in_err-meet.field-0.0
          c.from_residual.ensures.1 c.requires.input c.loop-done.invariant.on c.in_err-meet.ensures.feeds c.in_err-meet.ensures.stays;
    }
