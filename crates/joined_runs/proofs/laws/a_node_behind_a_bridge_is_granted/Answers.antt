use Rattle.joined_runs.proofs.BoxLemmas.{bridged_is_granted}
use Rattle.joined_runs.proofs.laws.a_node_behind_a_bridge_is_granted.Goals as goal

pub returns : goal.returns
returns c = bridged_is_granted c.what_is_taken_are_captures.ensures c.enodes_are_apart.ensures
