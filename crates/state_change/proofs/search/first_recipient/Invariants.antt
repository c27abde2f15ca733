use Rattle.std.proofs.Common.{◌≡◌, drop, find}
use Rattle.sorted_lists.specs.Orders.{seen}
use Rattle.state_change.specs.Watchers.{is_recipient}
use Rattle.state_change.proofs.search.first_recipient.Given as goal

-- what is found of those that are left is what is found of all
abbrev pub invariant-loop-place : goal.invariant-loop-place
invariant-loop-place l =
    let q = is_recipient l.zones l.at l.affected in
    find q (seen l.watchers (drop l.place-index l.places)) ≡ find q (seen l.watchers l.places)
