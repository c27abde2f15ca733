use Rattle.std.proofs.Common.{◌≡◌, false, None, IsSome, sym, ap, ◌∙◌, subst, take, if◌then◌else◌}
use Rattle.fab_policy.specs.State.{port_at}
use Rattle.zone_rules.specs.Joined.{contains}
use Rattle.fab_roster.specs.Changes.{EndsAll}
use Rattle.fab_roster.specs.Roll.{addresses_of}
use Rattle.fab_roster.proofs.EndsLemmas.{address_is, all_taken, ends_more, ends_none, not_before}
use Rattle.fab_roster.proofs.roster.Roster.end_all.Goals as goal

pub loop-login-init : goal.loop-login-init
loop-login-init c = record { ends = ends_none c.args.self.now; sound = c.clock.ensures.sound }

pub end_at-requires-clause-live : goal.end_at-requires-clause-live
end_at-requires-clause-live c =
    let ids = addresses_of c.args.ended.now in
    let i = c.loop-login.login-index in
    let a = c.login-item.result.address in
    let at = address_is c.items-login-items.result.now c.args.ended.now i c.login-item.result c.items-login-items.ensures c.loop-login-test.true c.login-item.is in
    let fresh : contains a (take i ids) ≡ false = ap (λ b. contains b (take i ids)) at.1 ∙ not_before 0 ids i a c.requires.differ at.0 in
    subst (λ o. IsSome o) (sym (c.loop-login.invariant.ends.ports a ∙ ap (λ x. if x then None else port_at a c.args.self.now.tables.ports) fresh))
    (subst (λ b. IsSome (port_at b c.args.self.now.tables.ports)) (sym at.1) (c.requires.live i a at.0))

pub loop-login-preserved : goal.loop-login-preserved
loop-login-preserved c =
    let i = c.loop-login.login-index in
    let at = address_is c.items-login-items.result.now c.args.ended.now i c.login-item.result c.items-login-items.ensures c.loop-login-test.true c.login-item.is in record {
      ends = ends_more (addresses_of c.args.ended.now) i c.login-item.result.address at.0 at.1 c.args.self.now c.loop-login.self c.end_at.new.self c.loop-login.invariant.ends c.end_at.ensures.change;
      sound = c.end_at.ensures.sound;
    }

pub returns-clause-change : goal.returns-clause-change
returns-clause-change c =
    subst (λ ids. EndsAll ids c.args.self.now c.loop-login.self)
    (all_taken c.items-login-items.result.now c.args.ended.now c.loop-login.login-index c.items-login-items.ensures c.loop-login-test.false) c.loop-login.invariant.ends
