use Rattle.std.proofs.Common.{length, sym}
use Rattle.std.proofs.Common.{eqb-true}
use Rattle.fab_state.proofs.ReadLemmas.{none_there}
use Rattle.fab_state.proofs.words.may_number_of.Goals as goal

pub returns-then-is_empty : goal.returns-then-is_empty
returns-then-is_empty c o h e = none_there c.args.word.now o h e (eqb-true (length c.args.word.now) 0 (sym c.if-is_empty.ensures))
