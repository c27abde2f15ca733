use Rattle.fabric_tool.proofs.ReadLemmas.{config_unopened, config_opened}
use Rattle.fabric_tool.proofs.inputs.config_of.Goals as goal

pub returns-in_default : goal.returns-in_default
returns-in_default g c = record { reads = config_unopened c.args.name.now _ _ c.in_default.field-0 c.in_default.ensures.opens }

pub returns : goal.returns
returns g c = record { reads = config_opened c.args.name.now c.in-Ok.slot _ _ _ c.in-Ok.ensures.opens c.config_from.result c.config_from.ensures.reads }
