use Rattle.std.proofs.Common.{ap, is_some, ◌∙◌}
use Rattle.std.specs.List.{list_any}
use Rattle.fab_base.specs.Fabric.{same_enode}
use Rattle.fab_judge.proofs.LoginLemmas.{any_from}
use Rattle.fab_judge.proofs.fip.is_known.Goals as goal

pub returns : goal.returns
returns c =
    c.is_some.ensures
    ∙ ap is_some c.first_of.ensures
    ∙ any_from (λ p. same_enode p.enode c.enode-enode.result) c.args.roster.now.tables.ports
    ∙ ap (λ x. list_any (λ p. same_enode p.enode x) c.args.roster.now.tables.ports) c.enode-enode.ensures
