use Rattle.std.proofs.Common.{◌∙◌, ap}
use Rattle.std.specs.Map.{values_of}
use Rattle.fab_base.specs.Keyed.{item_at, without}
use Rattle.sorted_lists.proofs.EntryLemmas.{found, removed, AreRanked-removed}
use Rattle.sorted_lists.proofs.trees.SortedTree.take.Goals as goal

pub invariant_of-self : goal.invariant_of-self
invariant_of-self g c = AreRanked-removed g.T.HasRank.rank_of c.args.rank c.self.inside.tree.entries _ c.self.invariant c.remove.ensures.entries

pub returns-clause-item : goal.returns-clause-item
returns-clause-item g c =
    let rank = g.T.HasRank.rank_of in
    c.remove.ensures.value ∙ found rank c.args.rank c.self.inside.tree.entries c.self.invariant.keyed ∙ ap (λ l. item_at rank c.args.rank l) c.self.view_is

pub returns-clause-items : goal.returns-clause-items
returns-clause-items g c =
    let rank = g.T.HasRank.rank_of in
    let es = c.self.inside.tree.entries in
    ap (λ l. values_of l) c.remove.ensures.entries ∙ removed rank c.args.rank 0 es c.self.invariant.keyed c.self.invariant.ascending ∙ ap (λ l. without rank c.args.rank l) c.self.view_is
