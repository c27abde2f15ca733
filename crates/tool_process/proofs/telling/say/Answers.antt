use Rattle.tool_process.proofs.LineLemmas.{line_passes}
use Rattle.tool_process.proofs.telling.say.Goals as goal

pub returns : goal.returns
returns g c = record { plain = line_passes c.args.line.now }
