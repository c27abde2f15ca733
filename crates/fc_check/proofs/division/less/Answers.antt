use Rattle.std.proofs.Common.{refl}
use Rattle.fc_check.specs.Division.{taken}
use Rattle.fc_check.proofs.division.less.Goals as goal

pub returns : goal.returns
unfolding taken
returns c = refl
