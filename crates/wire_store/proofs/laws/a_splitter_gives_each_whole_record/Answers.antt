use Rattle.wire_store.proofs.CutLemmas.{stands_none, stands_piece, stands_given, wholes_one, wholes_front}
use Rattle.wire_store.proofs.laws.a_splitter_gives_each_whole_record.Goals as goal

pub returns-clause-stands : goal.returns-clause-stands
returns-clause-stands c = (stands_none, stands_piece, stands_given)

pub returns-clause-one : goal.returns-clause-one
returns-clause-one c = wholes_one

pub returns-clause-fronts : goal.returns-clause-fronts
returns-clause-fronts c = wholes_front
