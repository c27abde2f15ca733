use Rattle.fab_policy.proofs.ReadLemmas.{no_number_above}
use Rattle.fab_policy.proofs.words.number_up_to.Goals as goal

pub returns-else-number-most : goal.returns-else-number-most
returns-else-number-most c = no_number_above c.args.word.now c.in-Some.number c.args.most c.in-Some.ensures c.if-number-most.false
