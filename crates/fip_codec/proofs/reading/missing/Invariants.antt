use Rattle.std.proofs.Common.{◌≡◌, drop}
use Rattle.std.specs.List.{find}
use Rattle.fip_codec.specs.Fip.{required}
use Rattle.fip_codec.specs.Table.{named}
use Rattle.fip_codec.proofs.Present.{absent}
use Rattle.fip_codec.proofs.reading.missing.Given as goal

abbrev pub invariant-loop-wanted : goal.invariant-loop-wanted
invariant-loop-wanted l = find (absent l.list) (drop l.wanted-index l.wanted-items) ≡ find (absent l.list) (required (named l.fn.kind))
