use Rattle.std.proofs.Common.{◌≡◌, ◌-◌, ◌*◌, take, drop}
use Rattle.fab_config.specs.Values.{octets}
use Rattle.fab_config.proofs.HexLemmas.{behind, glued}
use Rattle.fab_config.proofs.hexes.read_octets.Given as goal

abbrev pub invariant-loop-i : goal.invariant-loop-i
invariant-loop-i l = octets l.word ≡ glued (take l.i l.bytes) (behind (drop (3 * l.i - 1) l.word))
