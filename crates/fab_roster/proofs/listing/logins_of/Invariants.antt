use Rattle.std.proofs.Common.{◌-◌, ◌^◌, filter}
use Rattle.fab_base.specs.Fabric.{same_enode}
use Rattle.login_table.specs.Logins.{address_of}
use Rattle.fab_roster.proofs.Walks.{Walked}
use Rattle.fab_roster.proofs.listing.logins_of.Given as goal

abbrev pub invariant-loop-address : goal.invariant-loop-address
invariant-loop-address l = Walked address_of (λ ls. ls) l.from (filter (λ x. same_enode x.enode l.enode) l.table.logins) l.logins

abbrev pub decreases-loop-address : goal.decreases-loop-address
decreases-loop-address l = 2 ^ 24 - l.from
