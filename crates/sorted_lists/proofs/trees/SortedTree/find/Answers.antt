use Rattle.std.proofs.Common.{◌∙◌, ap}
use Rattle.fab_base.specs.Keyed.{item_at}
use Rattle.sorted_lists.proofs.EntryLemmas.{found}
use Rattle.sorted_lists.proofs.trees.SortedTree.find.Goals as goal

pub returns-clause-item : goal.returns-clause-item
returns-clause-item g c =
    let rank = g.T.HasRank.rank_of in
    c.get.ensures.value ∙ found rank c.args.rank c.self.inside.tree.entries c.self.invariant.keyed ∙ ap (λ l. item_at rank c.args.rank l) c.self.view_is
