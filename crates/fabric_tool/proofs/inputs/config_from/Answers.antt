use Rattle.fabric_tool.proofs.ReadLemmas.{text_no_room}
use Rattle.fabric_tool.proofs.inputs.config_from.Goals as goal

pub returns-in-Err : goal.returns-in-Err
returns-in-Err g c = record { reads = text_no_room c.args.slot _ }
