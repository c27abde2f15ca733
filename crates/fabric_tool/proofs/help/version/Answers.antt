use Rattle.std.proofs.Common.{refl}
use Rattle.fabric_tool.specs.Help.{version_text}
use Rattle.fabric_tool.proofs.help.version.Goals as goal

pub returns : goal.returns
unfolding version_text
returns c = refl
