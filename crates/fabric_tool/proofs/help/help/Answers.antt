use Rattle.std.proofs.Common.{refl}
use Rattle.fabric_tool.specs.Help.{help_text}
use Rattle.fabric_tool.proofs.help.help.Goals as goal

pub returns : goal.returns
unfolding help_text
returns c = refl
