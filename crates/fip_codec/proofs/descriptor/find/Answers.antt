use Rattle.std.proofs.Common.{Some, None, cond, sym, ap, ◌∙◌}
use Rattle.fip_codec.specs.Walk.{said}
use Rattle.fip_codec.proofs.Sound.{first_there, first_absent}
use Rattle.fip_codec.proofs.descriptor.find.Goals as goal

pub returns-in-Some-clause-found : goal.returns-in-Some-clause-found
returns-in-Some-clause-found c =
    let t = first_there c.args.list.now c.args.kind _ _ c.requires c.in-Some.ensures.found in
    sym (ap (λ b. cond b (Some (said c.args.kind c.args.list.now)) None) t.0 ∙ ap Some t.1)

pub returns-in-None-clause-found : goal.returns-in-None-clause-found
returns-in-None-clause-found c =
    let t = first_absent c.args.list.now c.args.kind c.requires c.in-None.ensures.found in
    sym (ap (λ b. cond b (Some (said c.args.kind c.args.list.now)) None) t)
