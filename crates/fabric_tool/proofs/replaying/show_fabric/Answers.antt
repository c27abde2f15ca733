use Rattle.fabric_tool.proofs.ShowLemmas.{told_text}
use Rattle.fabric_tool.proofs.replaying.show_fabric.Goals as goal

pub returns-in-Ok : goal.returns-in-Ok
returns-in-Ok c = record { tells = told_text c.args.fabric.now c.args.entries c.from_vec.result c.write_shown.new.out.items c.new-text.result.items c.from_vec.ensures c.in-Ok.ensures.ok c.new-text.ensures.items }
