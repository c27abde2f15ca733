-- The law is a lemma.
use Rattle.fab_pieces.proofs.JoinLemmas as join
use Rattle.fab_pieces.proofs.laws.restored_stands.Goals as goal

pub returns : goal.returns
returns c = join.restored_stands
