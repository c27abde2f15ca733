use Rattle.side_runs.proofs.InputLemmas.{input_read, input_unopened}
use Rattle.side_runs.proofs.captures.read_input.Goals as goal

pub returns-in-Ok : goal.returns-in-Ok
returns-in-Ok g c =
    let seen = g.D.Depot.seen in
    record {
      reads = input_read c.args.port c.args.name.now (seen c.args.depot.now) c.args.budget.now c.in-Ok.slot (seen c.open_in.new.self) (seen c.read_capture.new.depot) c.read_capture.new.budget c.read_capture.result c.in-Ok.ensures.opens c.read_capture.ensures.reads;
    }

pub returns-in-Err : goal.returns-in-Err
returns-in-Err g c =
    let seen = g.D.Depot.seen in
    record { reads = input_unopened c.args.port c.args.name.now (seen c.args.depot.now) c.args.budget.now (seen c.open_in.new.self) c.in-Err.field-0 c.in-Err.ensures.opens }
