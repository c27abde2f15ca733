use Rattle.side_runs.proofs.FileLemmas.{taken}
use Rattle.side_runs.proofs.node_input.read_input.Goals as goal

pub returns : goal.returns
returns g c = record {
  reads = taken c.args.start c.args.from.now c.args.budget _ c.first_port.result c.in-Ok.slot c.first_port.ensures _ _ _ c.in-Ok.ensures.opens c.read_capture-read.result c.read_capture-read.ensures.reads c.unless_too_long.result
      c.unless_too_long.ensures;
}
