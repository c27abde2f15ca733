use Rattle.std.proofs.Common.{◌<◌, arith}
use Rattle.fab_policy.proofs.ReadingLemmas.{no_address_below}
use Rattle.fab_policy.proofs.reading.address_from.Goals as goal

pub returns-else-value-least : goal.returns-else-value-least
returns-else-value-least c =
    let below : c.in-Some.address < c.args.least = omega (arith, c.value.ensures.value, c.if-value-least.false) in
    no_address_below c.args.word.now c.in-Some.address c.args.least c.in-Some.ensures below
