use Rattle.std.proofs.Common.{arith}
use Rattle.fab_policy.proofs.ReplyLemmas.{ranges_inside}
use Rattle.fab_sending.proofs.parts.own_tag.Goals as goal

pub overflow_add-result : goal.overflow_add-result
overflow_add-result c = let r = ranges_inside c.config.inside c.config.invariant in omega (arith, r.1)
