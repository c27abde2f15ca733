use Rattle.std.proofs.Common.{◌≡◌}
use Rattle.fab_vectors.specs.Names.{numbered}
use Rattle.fab_vectors.specs.Settings.{zone}
use Rattle.fab_vectors.proofs.settings.zones.Given as goal

abbrev pub invariant-loop-login : goal.invariant-loop-login
invariant-loop-login l = l.zones ≡ numbered zone 0 l.login
