use Rattle.std.proofs.Common.{◌-◌, ◌^◌, filter}
use Rattle.state_change.specs.Watchers.{address_of}
use Rattle.fab_roster.specs.Reaching.{is_reached}
use Rattle.fab_roster.specs.Roll.{addresses_of}
use Rattle.fab_roster.proofs.Reached.{left}
use Rattle.fab_roster.proofs.Walks.{Walked}
use Rattle.fab_roster.proofs.reaching.reached.Given as goal

abbrev pub invariant-loop-address : goal.invariant-loop-address
invariant-loop-address l = Walked address_of (left (addresses_of l.but)) l.from (filter (is_reached l.zones l.name l.reach) l.watchers.watchers) l.ids

abbrev pub decreases-loop-address : goal.decreases-loop-address
decreases-loop-address l = 2 ^ 24 - l.from
