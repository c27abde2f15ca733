use Rattle.std.proofs.Common.{◌≡◌, ◌≤◌, ℕ, IfSome, length, arith, subst}
use Rattle.std.specs.List.{All}
use Rattle.fab_policy.specs.Standing.{Contents}
use Rattle.fab_roster.specs.Changes.{IsSize}
use Rattle.forward_core.proofs.fabric.Fabric.before.Goals as goal

pub returns-clause-few : goal.returns-clause-few
returns-clause-few c = few (length c.self.inside.roster.tables.ports) c.self.inside.roster.limit c.self.inside.config.limit c.self.invariant.sound.few c.self.invariant.limit c.in_range.ensures.ranges.limit
  where
    few : (n limit most : ℕ) → n ≤ limit → limit ≡ most → most ≤ 1000 → n ≤ 65535
    few n limit most h e l = omega (arith, h, e, l)

pub returns-clause-sizes : goal.returns-clause-sizes
returns-clause-sizes c = subst (λ (F : Contents). All (λ p. IfSome p.server IsSize) F.state.tables.ports) c.self.view_is c.self.invariant.sound.sizes
