use Rattle.joined_runs.proofs.BoxLemmas.{joined_is_granted}
use Rattle.joined_runs.proofs.laws.a_joined_node_is_granted.Goals as goal

pub returns : goal.returns
returns c = joined_is_granted c.what_is_taken_are_captures.ensures
