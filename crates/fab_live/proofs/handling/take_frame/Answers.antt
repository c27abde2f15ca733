use Rattle.std.proofs.Common.{◌∙◌, ap}
use Rattle.fab_policy.specs.Journal.{frame_count}
use Rattle.fab_shared.proofs.FrameLemmas.{port_one}
use Rattle.fab_live.proofs.HandlingLemmas.{frames_behind}
use Rattle.fab_live.proofs.handling.take_frame.Goals as goal

pub returns-in-Ok-clause-handled : goal.returns-in-Ok-clause-handled
returns-in-Ok-clause-handled c = λ m.
    port_one c.args.port c.args.index (record { moment = m; caught = c.args.caught.now }) c.hear.result.caught.now c.hear.ensures.caught c.in-Ok.verdict c.args.fabric.now
    c.step.new.self c.requires.port.0 c.requires.port.1 (c.requires.clock, c.in-Ok.ensures.right) c.in-Ok.ensures.takes

pub returns-in-Ok-clause-one : goal.returns-in-Ok-clause-one
returns-in-Ok-clause-one c = ap frame_count c.in-Ok.ensures.takes.events ∙ frames_behind c.args.fabric.now.events c.args.port c.args.index c.hear.result.caught.now c.in-Ok.verdict
