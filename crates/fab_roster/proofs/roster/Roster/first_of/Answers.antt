use Rattle.std.proofs.Common.{◌∙◌, ◌&&◌, nat_le, refl}
use Rattle.fab_base.specs.Fabric.{same_enode}
use Rattle.fab_roster.proofs.Lookups.{next_port}
use Rattle.fab_roster.proofs.roster.Roster.first_of.Goals as goal

pub returns : goal.returns
returns c =
    let x = c.args.enode.now in
    c.first_of.ensures.first ∙ next_port c.self.inside c.self.view_is c.args.from (λ p. nat_le c.args.from p.address && same_enode p.enode x) (λ l. same_enode l.enode x) (λ l. refl)
