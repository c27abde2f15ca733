use Rattle.std.proofs.Common.{ap, ◌∙◌, Bool}
use Rattle.fab_base.specs.declared.values.Enode.{Enode}
use Rattle.fab_policy.specs.Free.{Request}
use Rattle.fab_judge.specs.Origin.{is_flogi_by}
use Rattle.fab_judge.proofs.logins.request_of.Goals as goal

pub returns : goal.returns
returns c =
    let by : Bool → Request = λ b. record { flogi = b; enode = c.enode.result; name = c.args.parms.now.port_name } in
    let of : Enode → Request = λ x. record { flogi = is_flogi_by c.args.kind c.args.from.now.caught; enode = x; name = c.args.parms.now.port_name } in
    ap by (c.is_flogi.ensures c.args.from.now.caught) ∙ ap of c.enode.ensures
