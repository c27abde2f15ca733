use Rattle.fab_policy.proofs.ReadLemmas.{no_digit, hex_one_more, power_more}
use Rattle.fab_policy.proofs.words.read_hex.Goals as goal

pub returns-in-None : goal.returns-in-None
returns-in-None c = no_digit c.args.word.now c.loop-byte.byte-index c.loop-byte-test.true c.in-None.ensures

pub loop-byte-preserved : goal.loop-byte-preserved
loop-byte-preserved c = (
  power_more c.loop-byte.byte-index c.loop-byte.value c.in-Some.digit c.loop-byte.invariant.0 c.in-Some.ensures.0,
  hex_one_more c.args.word.now c.loop-byte.byte-index c.loop-byte.value c.in-Some.digit c.loop-byte-test.true c.loop-byte.invariant.1 c.in-Some.ensures.0 c.in-Some.ensures.1,
)
