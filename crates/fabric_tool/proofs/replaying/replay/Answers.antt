use Rattle.fabric_tool.specs.Command.{run_of}
use Rattle.fabric_tool.proofs.ShowLemmas.{replay_done, replay_refused}
use Rattle.fabric_tool.proofs.replaying.replay.Goals as goal

pub returns-in-Ok : goal.returns-in-Ok
returns-in-Ok g c =
    let seen = g.D.Depot.seen in
    record { holds = replay_done (run_of c.args.words.now) (seen c.args.depot.now) (seen c.check_files.new.depot) c.in-Ok.field-0-0 c.in-Ok.entries c.in-Ok.ensures.checks; touches = c.in-Ok.ensures.touches }

pub returns : goal.returns
returns g c =
    let seen = g.D.Depot.seen in
    record { holds = replay_refused (run_of c.args.words.now) (seen c.args.depot.now) (seen c.check_files.new.depot) c.in-Err.outcome c.in-Err.ensures.checks; touches = c.in-Err.ensures.touches }
