use Rattle.std.proofs.Common.{◌≡◌, ap, ◌∙◌, sym, not, ◌&&◌, ◌==◌, find, Some, None, option_map, false}
use Rattle.std.specs.Option.{option_map_or}
use Rattle.fab_base.specs.Fabric.{same_enode}
use Rattle.fab_policy.specs.State.{LivePort}
use Rattle.fab_roster.specs.Roll.{login_of}
use Rattle.fab_judge.proofs.RowLemmas.{by_found, not_found}
use Rattle.fab_judge.proofs.LoginLemmas.{kept}
use Rattle.fab_judge.proofs.logins.is_taken.Goals as goal

pub returns-in-Some : goal.returns-in-Some
returns-in-Some c = λ c'.
    let r = c.args.request.now in
    let ports = c.args.roster.now.tables.ports in
    let keeps = λ (p : LivePort). not (r.flogi && same_enode p.enode r.enode) in
    let inside : Some c.in-Some.login.now ≡ option_map login_of (find (λ p. p.name == c.request.inside.name) ports) = c.in-Some.ensures in
    let named = inside ∙ ap (λ r. option_map login_of (find (λ p. p.name == r.name) ports)) c.request.view_is in
    by_found (find (λ p. p.name == r.name) ports) c.in-Some.login.now (sym named) λ q at is.
    c.is_left.ensures
    ∙ ap (λ l. not (r.flogi && same_enode l.enode r.enode)) (sym is)
    ∙ sym (kept r.name keeps ports c.requires ∙ ap (λ o. option_map_or keeps o false) at)

pub returns-in-None : goal.returns-in-None
returns-in-None c = λ c'.
    let r = c.args.request.now in
    let ports = c.args.roster.now.tables.ports in
    let keeps = λ (p : LivePort). not (r.flogi && same_enode p.enode r.enode) in
    let inside : None ≡ option_map login_of (find (λ p. p.name == c.request.inside.name) ports) = c.in-None.ensures in
    let named = inside ∙ ap (λ r. option_map login_of (find (λ p. p.name == r.name) ports)) c.request.view_is in
    sym (kept r.name keeps ports c.requires ∙ ap (λ o. option_map_or keeps o false) (not_found (find (λ p. p.name == r.name) ports) (sym named)))
