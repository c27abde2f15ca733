use Rattle.std.proofs.Common.{◌<◌, lit≤, refl, arith}
use Rattle.std.proofs.lemmas.Bool.{and_from, lt-ltb}
use Rattle.fab_policy.proofs.ReplyLemmas.{ranges_inside}
use Rattle.fab_sending.proofs.discovery.write_notice_to.Goals as goal

pub fip_bytes-requires : goal.fip_bytes-requires
fip_bytes-requires c =
    let r = ranges_inside c.config.inside c.config.invariant in
    let small : c.config.inside.vlan < 4096 = omega (arith, r.1) in
    (lit≤ tt, and_from _ _ (lt-ltb _ _ small) refl)
