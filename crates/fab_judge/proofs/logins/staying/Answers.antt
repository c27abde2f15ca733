use Rattle.std.proofs.Common.{◌&&◌, arith}
use Rattle.fab_base.specs.Fabric.{same_enode}
use Rattle.fab_policy.specs.State.{LivePort}
use Rattle.fab_judge.proofs.LoginLemmas.{ends_and_stays}
use Rattle.fab_judge.proofs.logins.staying.Goals as goal

pub overflow_sub-result : goal.overflow_sub-result
overflow_sub-result c =
    let r = c.args.request.now in
    let all = ends_and_stays (λ (p : LivePort). r.flogi && same_enode p.enode r.enode) c.args.roster.now.tables.ports c.args.ended.now c.requires in
    omega (arith, all)

pub returns : goal.returns
returns c = λ c'.
    let r = c.args.request.now in
    let all = ends_and_stays (λ (p : LivePort). r.flogi && same_enode p.enode r.enode) c.args.roster.now.tables.ports c.args.ended.now c.requires in
    omega (arith, all)
