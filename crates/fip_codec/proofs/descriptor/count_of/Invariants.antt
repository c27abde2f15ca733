use Rattle.std.proofs.Common.{◌≡◌, ◌+◌, ◌≤◌, length}
use Rattle.fip_codec.specs.Fip.{HEADER}
use Rattle.fip_codec.specs.Walk.{of_type}
use Rattle.fip_codec.proofs.Typed.{from}
use Rattle.fip_codec.proofs.descriptor.count_of.Given as goal

abbrev pub invariant-loop-first : goal.invariant-loop-first
invariant-loop-first l = record {
  within : l.count + length l.rest ≤ length l.list;
  on : l.count + length (of_type l.kind (from l.list l.rest) l.rest) ≡ length (of_type l.kind HEADER l.list);
}

abbrev pub decreases-loop-first : goal.decreases-loop-first
decreases-loop-first l = length l.rest
