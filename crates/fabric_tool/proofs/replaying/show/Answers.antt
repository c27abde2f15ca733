use Rattle.fabric_tool.specs.Command.{show_of}
use Rattle.fabric_tool.proofs.ShowLemmas.{show_done, show_refused}
use Rattle.fabric_tool.proofs.replaying.show.Goals as goal

pub returns-in-Ok : goal.returns-in-Ok
returns-in-Ok g c =
    let seen = g.D.Depot.seen in
    record { holds = show_done (show_of c.args.words.now) (seen c.args.depot.now) (seen c.check_files.new.depot) c.in-Ok.fabric c.in-Ok.entries c.show_fabric.result c.in-Ok.ensures.checks c.show_fabric.ensures.tells; touches = c.in-Ok.ensures.touches }

pub returns-in-Err : goal.returns-in-Err
returns-in-Err g c =
    let seen = g.D.Depot.seen in
    record { holds = show_refused c.args.words.now (seen c.args.depot.now) (seen c.check_files.new.depot) c.in-Err.outcome c.in-Err.ensures.checks; touches = c.in-Err.ensures.touches }
