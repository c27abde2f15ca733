use Rattle.std.proofs.Common.{◌≡◌, Some, IsTrue, option_map, sym, ap, ◌∙◌, subst}
use Rattle.login_table.specs.Logins.{login_at, named}
use Rattle.fab_policy.specs.Free.{Request, is_free}
use Rattle.fab_roster.specs.Roll.{Roll, login_of}
use Rattle.fab_roster.proofs.FreeLemmas.{at_name, free_live, none_named, one_named}
use Rattle.fab_roster.proofs.Lookups.{login_of_port}
use Rattle.fab_roster.proofs.roster.Roster.own.Goals as goal
use Rattle.fab_roster.proofs.roster.Roster.own.Goals.{in_default-via-in-Some+else-replaces, in_default-via-in_default}

pub returns-in-Some-clause-free : goal.returns-in-Some-clause-free
returns-in-Some-clause-free c =
    let i = c.self.inside in
    let q = c.args.request.now in
    let l = c.in-Some.login.now in
    let found : named q.name i.logins.logins ≡ Some l = sym (c.in-Some.ensures.login ∙ ap (λ (x : Request). named x.name i.logins.logins) c.request.view_is) in
    let at : login_at l.address i.logins.logins ≡ Some l = at_name c.self.invariant q l found in
    subst (λ (r : Roll). IsTrue (is_free r.tables q l.address)) c.self.view_is
    (sym (free_live c.self.invariant q l.address l at) ∙ (sym c.replaces.ensures ∙ c.if-replaces.true))

pub returns-in_default-clause-none : goal.returns-in_default-clause-none
returns-in_default-clause-none c =
    let i = c.self.inside in
    let q = c.args.request.now in
    λ e a p is.
    let at : login_at a i.logins.logins ≡ Some (login_of p) = login_of_port i c.self.view_is a ∙ ap (λ o. option_map login_of o) is in
    elim c.in_default.branch [
      | in_default-via-in-Some+else-replaces w ↦
          one_named c.self.invariant q w.in-Some.login.now
          (sym (w.in-Some.ensures.login ∙ ap (λ (x : Request). named x.name i.logins.logins) c.request.view_is))
          (sym w.replaces.ensures ∙ w.if-replaces.false) a (login_of p) at
      | in_default-via-in_default w ↦
          none_named c.self.invariant q (sym (w.in_default.ensures.login ∙ ap (λ (x : Request). named x.name i.logins.logins) c.request.view_is)) a (login_of p) at
    ]
