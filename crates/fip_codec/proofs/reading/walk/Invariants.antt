use Rattle.std.proofs.Common.{◌≡◌, ◌-◌, ◌≤◌, true, length, take}
use Rattle.fip_codec.specs.Walk.{are_sound, fault_at}
use Rattle.fip_codec.specs.Table.{named}
use Rattle.fip_codec.proofs.reading.walk.Given as goal

abbrev pub invariant-loop-done : goal.invariant-loop-done
invariant-loop-done l = record {
  within : l.done ≤ length l.list;
  on : fault_at (named l.kind) l.list l.done ≡ fault_at (named l.kind) l.list 0;
  sound : are_sound (take l.done l.list) ≡ true;
}

abbrev pub decreases-loop-done : goal.decreases-loop-done
decreases-loop-done l = length l.list - l.done
