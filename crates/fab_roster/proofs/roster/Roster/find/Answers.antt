use Rattle.std.proofs.Common.{◌≡◌, inl, inr, ℕ, ◌==◌, ◌&&◌, Some, None, false, IfSome, IsTrue, sym, ap, ◌∙◌, subst}
use Rattle.fc_addresses.specs.Pool as pool
use Rattle.fab_base.specs.Fabric.{same_enode}
use Rattle.fab_policy.specs.Free.{Request, is_free, has_free}
use Rattle.fab_policy.specs.State.{LivePort, now_of, port_at}
use Rattle.fab_roster.specs.Roll.{Roll}
use Rattle.fab_roster.proofs.FreeLemmas.{found_some, pool_free}
use Rattle.fab_roster.proofs.roster.Roster.find.Goals as goal

module _ (c : goal.After-least_of) where
  free_there : IfSome c.find-free.result (λ a. IsTrue (is_free c.args.self.now.tables c.args.request.now a))
  free_there =
      let i = c.self.inside in
      let q = c.args.request.now in
      subst (λ (r : Roll). IfSome c.find-free.result (λ a. IsTrue (is_free r.tables q a))) c.self.view_is
      (pool_free c.self.invariant q c.find-free.result
      (subst (λ (n : ℕ). IfSome c.find-free.result (λ a. IsTrue (pool.is_free i.pool q.name n a))) (c.now.ensures ∙ ap (λ (r : Roll). now_of r.tables) (sym c.self.view_is))
      (subst (λ (x : Request). IfSome c.find-free.result (λ a. IsTrue (pool.is_free i.pool x.name c.now.result a))) c.request.view_is c.find-free.ensures.free)))

pub returns-clause-free : goal.returns-clause-free
returns-clause-free c = elim c.least_of.ensures.one [
  | inl e ↦ subst (λ o. IfSome o (λ a. IsTrue (is_free c.args.self.now.tables c.args.request.now a))) (sym e) c.own-own.ensures.free
  | inr e ↦ subst (λ o. IfSome o (λ a. IsTrue (is_free c.args.self.now.tables c.args.request.now a))) (sym e) (free_there c)
]

pub returns-clause-some : goal.returns-clause-some
returns-clause-some c =
    let i = c.self.inside in
    let q = c.args.request.now in
    c.least_of.ensures.some
    ∙ found_some c.self.invariant q c.own-own.result c.find-free.result
    (subst (λ (r : Roll). IfSome c.own-own.result (λ a. IsTrue (is_free r.tables q a))) (sym c.self.view_is) c.own-own.ensures.free)
    (subst (λ (r : Roll). c.own-own.result ≡ None → (a : ℕ) (p : LivePort) → port_at a r.tables.ports ≡ Some p → (q.flogi && same_enode p.enode q.enode && p.name == q.name) ≡ false)
    (sym c.self.view_is) c.own-own.ensures.none)
    (subst (λ (r : Roll). IfSome c.find-free.result (λ a. IsTrue (is_free r.tables q a))) (sym c.self.view_is) (free_there c))
    (c.find-free.ensures.some ∙ ap (λ (x : Request). pool.has_free i.pool x.name c.now.result) c.request.view_is
    ∙ ap (λ (n : ℕ). pool.has_free i.pool q.name n) (c.now.ensures ∙ ap (λ (r : Roll). now_of r.tables) (sym c.self.view_is)))
    ∙ ap (λ (r : Roll). has_free r.tables q) c.self.view_is
