use Rattle.std.proofs.Common.{ℕ, sym, ap, ◌∙◌}
use Rattle.fc_addresses.specs.Pool as pool
use Rattle.fab_policy.specs.Free.{Request, is_free}
use Rattle.fab_policy.specs.State.{now_of}
use Rattle.fab_roster.specs.Roll.{Roll}
use Rattle.fab_roster.proofs.FreeLemmas.{free_dead, free_live}
use Rattle.fab_roster.proofs.roster.Roster.is_free.Goals as goal

pub returns-in-Some : goal.returns-in-Some
returns-in-Some c =
    let q = c.args.request.now in
    c.replaces.ensures
    ∙ free_live c.self.invariant q c.args.address c.in-Some.login.now (sym c.in-Some.ensures.login)
    ∙ ap (λ (r : Roll). is_free r.tables q c.args.address) c.self.view_is

pub returns-in-None : goal.returns-in-None
returns-in-None c =
    let i = c.self.inside in
    let q = c.args.request.now in
    c.is_free.ensures.free
    ∙ ap (λ (x : Request). pool.is_free i.pool x.name c.now.result c.args.address) c.request.view_is
    ∙ ap (λ (n : ℕ). pool.is_free i.pool q.name n c.args.address) (c.now.ensures ∙ ap (λ (r : Roll). now_of r.tables) (sym c.self.view_is))
    ∙ free_dead c.self.invariant q c.args.address (sym c.in-None.ensures.login)
    ∙ ap (λ (r : Roll). is_free r.tables q c.args.address) c.self.view_is
