use Rattle.std.proofs.Common.{◌+◌, refl, arith}
use Rattle.fc_check.proofs.Room.{one_divided}
use Rattle.fc_check.proofs.division.divide.Goals as goal

pub loop-at-preserved : goal.loop-at-preserved
loop-at-preserved c =
    one_divided c.args.room.now c.loop-at.room c.args.bytes.now c.loop-at.at c.less.result (c.loop-at.at + 1) c.loop-at.invariant c.less.ensures (omega (arith, c.loop-at.invariant.size, c.told-room, c.loop-at-test.true, c.requires.few)) refl
