use Rattle.fab_policy.proofs.ReadLemmas.{other_length, found_in}
use Rattle.fab_policy.proofs.words.read_digits.Goals as goal

pub returns-then-word-count : goal.returns-then-word-count
returns-then-word-count c = other_length c.args.word.now c.args.count c.if-word-count.true

pub returns : goal.returns
returns c = found_in c.args.word.now c.args.count c.read_hex.result c.if-word-count.false c.read_hex.ensures
