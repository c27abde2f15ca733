use Rattle.std.proofs.Common.{◌≡◌, ap, arith}
use Rattle.fab_policy.proofs.ReplyLemmas.{ranges_inside}
use Rattle.fab_sending.proofs.discovery.advertisement.Goals as goal

pub returns-clause-fits : goal.returns-clause-fits
returns-clause-fits c =
    let r = ranges_inside c.config.inside c.config.invariant in
    let is : c.config.inside.fc_map ≡ c.args.config.now.fc_map = ap (λ s. s.fc_map) c.config.view_is in
    omega (arith, r.0, is)
