use Rattle.std.proofs.Common.{◌∙◌, ap, sym, find, nat_le}
use Rattle.sorted_lists.proofs.EntryLemmas.{found_from, head_item}
use Rattle.sorted_lists.proofs.trees.SortedTree.next.Goals as goal

pub returns-in-Some-clause-item : goal.returns-in-Some-clause-item
returns-in-Some-clause-item g c =
    let rank = g.T.HasRank.rank_of in
    ap head_item (sym c.in-Some.ensures.steps ∙ c.range.ensures.between tt) ∙ found_from rank c.args.from c.self.inside.tree.entries c.self.invariant.keyed
    ∙ ap (λ l. find (λ x. nat_le c.args.from (rank x)) l) c.self.view_is

pub returns-in-None-clause-item : goal.returns-in-None-clause-item
returns-in-None-clause-item g c =
    let rank = g.T.HasRank.rank_of in
    ap head_item (sym c.in-None.ensures.steps.0 ∙ c.range.ensures.between tt) ∙ found_from rank c.args.from c.self.inside.tree.entries c.self.invariant.keyed
    ∙ ap (λ l. find (λ x. nat_le c.args.from (rank x)) l) c.self.view_is
