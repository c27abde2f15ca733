use Rattle.std.proofs.Common.{◌+◌, ◌-◌, ◌*◌, arith}
use Rattle.std.proofs.lemmas.List.{length-set}
use Rattle.fab_config.proofs.HexLemmas.{other_length, first_byte, next_byte}
use Rattle.fab_config.proofs.hexes.read_octets.Goals as goal

pub returns-then-word-count : goal.returns-then-word-count
returns-then-word-count c = other_length c.args.word.now _ (λ e. c.if-word-count.true e)

pub loop-i-init : goal.loop-i-init
loop-i-init c = first_byte c.args.word.now c.args.bytes.now c.in-Some.first c.requires.some (omega arith) c.in-Some.ensures

pub loop-i-preserved : goal.loop-i-preserved
loop-i-preserved c =
    let i = c.loop-i.i in
    let size = length-set c.args.bytes.now 0 c.in-Some.first in
    let same = c.loop-i.auto.bytes in
    next_byte c.args.word.now c.loop-i.bytes c.in-Some-octet.byte i (3 * i - 1) (3 * i) (3 * (i + 1) - 1) (omega (arith, size, same)) (omega arith) (omega arith) (omega arith) c.if-word-i-ne58.false c.in-Some-octet.ensures c.loop-i.invariant
