use Rattle.fc_check.proofs.Room.{begun-at}
use Rattle.fc_check.proofs.division.begin.Goals as goal

pub returns : goal.returns
returns c = begun-at c.args.room.now c.told-room c.requires
