use Rattle.std.proofs.Common.{◌≡◌, map, filter, refl, ap, ◌∙◌}
use Rattle.std.proofs.lemmas.Result.{IfOk-weaker}
use Rattle.fab_base.specs.Fabric.{same_enode}
use Rattle.fab_policy.specs.State.{LivePort}
use Rattle.fab_roster.specs.Roll.{Roll, login_of}
use Rattle.fab_roster.proofs.Reached.{logins_pass}
use Rattle.fab_roster.proofs.roster.Roster.of_enode.Goals as goal

pub returns : goal.returns
returns c =
    let i = c.self.inside in
    let x = c.args.enode.now in
    IfOk-weaker c.logins_of.result
    (λ ls. ls ≡ filter (λ l. same_enode l.enode x) i.logins.logins)
    (λ ls. ls ≡ map login_of (filter (λ p. same_enode p.enode x) c.args.self.now.tables.ports))
    (λ ls is. is
    ∙ (logins_pass i (λ p. same_enode p.enode x) (λ l. same_enode l.enode x) (λ l. refl) i.logins.logins
    ∙ ap (λ (r : Roll). map login_of (filter (λ (p : LivePort). same_enode p.enode x) r.tables.ports)) c.self.view_is))
    c.logins_of.ensures
