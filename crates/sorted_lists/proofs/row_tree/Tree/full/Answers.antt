use Rattle.sorted_lists.proofs.TreeLemmas.{tree_full}
use Rattle.sorted_lists.proofs.row_tree.Tree.full.Goals as goal

pub invariant_of-result : goal.invariant_of-result
invariant_of-result c = tree_full c.args.places c.in_ok-leaves.leaves.items c.in_ok-tops.tops.items c.ranges.places.fits c.in_ok-leaves.ensures.words c.in_ok-tops.ensures.words c.in_ok-tops.ensures.bits
