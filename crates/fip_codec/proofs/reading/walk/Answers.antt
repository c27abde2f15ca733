use Rattle.std.proofs.Common.{◌∙◌, sym, refl, arith}
use Rattle.fip_codec.specs.Table.{named}
use Rattle.fip_codec.proofs.Walks.{fault_at-end, sound_none}
use Rattle.fip_codec.proofs.reading.walk.Goals as goal

pub loop-done-init : goal.loop-done-init
loop-done-init c = record { within = omega arith; on = refl; sound = sound_none c.args.list.now }

pub returns-clause-cases : goal.returns-clause-cases
returns-clause-cases c = sym c.loop-done.invariant.on ∙ fault_at-end (named c.args.kind) c.args.list.now c.loop-done.done (omega arith)
