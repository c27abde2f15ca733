use Rattle.std.proofs.Common.{◌≡◌, ◌≤◌, ◌∙◌, ℕ, List, length, map, ap, sym, subst, IsSome}
use Rattle.std.proofs.lemmas.List.{length-map}
use Rattle.std.specs.List.{All}
use Rattle.fab_policy.specs.Ranged.{AscendFrom}
use Rattle.fab_policy.specs.Standing.{Contents}
use Rattle.fab_policy.specs.State.{addresses, is_overdue, overdue, port_at}
use Rattle.fab_roster.specs.Roll.{Login, addresses_of, login_of}
use Rattle.fab_sending.proofs.Counting.{addresses_same}
use Rattle.forward_core.proofs.TickLemmas.{live_listed, few_listed, in_pool}
use Rattle.forward_core.proofs.fabric.Fabric.ended_at.Goals as goal

ended : (c : goal.In_ok-logins) → c.in_ok-logins.logins ≡ map login_of (overdue c.self.inside.config c.self.inside.roster.tables c.args.moment)
ended c = c.in_ok-logins.ensures c.self.inside.config (sym c.self.invariant.period)

listed : (c : goal.In_ok-logins) → addresses_of c.in_ok-logins.logins ≡ addresses (overdue c.self.inside.config c.self.inside.roster.tables c.args.moment)
listed c = ap addresses_of (ended c) ∙ addresses_same (overdue c.self.inside.config c.self.inside.roster.tables c.args.moment)

pub returns-clause-logins : goal.returns-clause-logins
returns-clause-logins c = subst (λ (F : Contents). c.in_ok-logins.logins ≡ map login_of (overdue F.settings F.state.tables c.args.moment)) c.self.view_is (ended c)

pub returns-clause-live : goal.returns-clause-live
returns-clause-live c =
    let i = c.self.inside in
    subst (λ (F : Contents). All (λ a. IsSome (port_at a F.state.tables.ports)) (addresses_of c.in_ok-logins.logins)) c.self.view_is
    (subst (λ (l : List ℕ). All (λ a. IsSome (port_at a i.roster.tables.ports)) l) (sym (listed c)) (live_listed (is_overdue i.config c.args.moment) i.roster.lowest i.roster.tables.ports c.self.invariant.sound.ascending.0))

pub returns-clause-ascending : goal.returns-clause-ascending
returns-clause-ascending c =
    let i = c.self.inside in
    subst (λ (l : List ℕ). AscendFrom 0 l) (sym (listed c))
    (c.tables_change.ensures.ends i.config i.roster.tables c.args.moment c.in_range.ensures.range (in_pool i.config i.roster c.self.invariant.lowest c.self.invariant.pool c.self.invariant.sound))

pub returns-clause-few : goal.returns-clause-few
returns-clause-few c =
    let i = c.self.inside in
    subst (λ n. n ≤ 1000) (length-map c.in_ok-logins.logins (λ (l : Login). l.address))
    (subst (λ (l : List ℕ). length l ≤ 1000) (sym (listed c)) (few_listed (is_overdue i.config c.args.moment) i.roster.limit i.roster.tables.ports c.self.invariant.sound.few (subst (λ n. n ≤ 1000) (sym c.self.invariant.limit) c.in_range.ensures.ranges.limit)))
