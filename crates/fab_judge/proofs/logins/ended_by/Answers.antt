use Rattle.std.proofs.Common.{map, ap, sym, ◌∙◌}
use Rattle.fab_base.specs.Fabric.{same_enode}
use Rattle.fab_roster.specs.Roll.{login_of}
use Rattle.fab_judge.proofs.LoginLemmas.{none_pass}
use Rattle.fab_judge.proofs.logins.ended_by.Goals as goal

pub returns-then-not-request : goal.returns-then-not-request
returns-then-not-request c =
    let T = c.args.roster.now.tables in
    c.empty.ensures ∙ sym (rw (← c.request.view_is, c.if-not-request.true) (ap (map login_of) (none_pass (λ p. same_enode p.enode c.request.inside.enode) T.ports)))
