use Rattle.std.proofs.Common.{◌+◌, refl}
use Rattle.fc_check.proofs.Room.{one_left}
use Rattle.fc_check.proofs.division.rest_of.Goals as goal

pub loop-at-preserved : goal.loop-at-preserved
loop-at-preserved c = one_left c.args.room.now c.args.bytes.now c.loop-at.rest c.args.count c.loop-at.at c.less.result (c.loop-at.at + 1) c.loop-at.invariant c.less.ensures c.loop-at-test.true refl
