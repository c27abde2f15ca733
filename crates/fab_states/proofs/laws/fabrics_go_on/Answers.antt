-- The laws are lemmas.
use Rattle.fab_states.proofs.WentLemmas.{went_stands, grown_stands, grows_by_frames}
use Rattle.fab_states.proofs.laws.fabrics_go_on.Goals as goal

pub returns : goal.returns
returns c = record { went = went_stands; grown = grown_stands; grows = grows_by_frames }
