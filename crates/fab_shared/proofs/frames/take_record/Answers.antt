use Rattle.fab_shared.proofs.FrameLemmas.{port_one}
use Rattle.fab_shared.proofs.frames.take_record.Goals as goal

pub returns-in-Ok : goal.returns-in-Ok
returns-in-Ok c =
    record {
      handled =
          port_one c.args.port c.args.index c.args.found.now c.hear.result.caught.now c.hear.ensures.caught c.in-Ok.verdict c.args.fabric.now c.step.new.self
          c.requires.port.0 c.requires.port.1 (c.requires.clock, c.in-Ok.ensures.right) c.in-Ok.ensures.takes;
    }
