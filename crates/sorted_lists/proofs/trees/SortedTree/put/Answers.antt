use Rattle.std.proofs.Common.{ℕ, ◌∙◌, ap, sym}
use Rattle.std.specs.Ordering.{nat_cmp}
use Rattle.std.specs.Map.{values_of, lookup}
use Rattle.std.specs.BTreeMap.{is_at, insert_entry}
use Rattle.fab_base.specs.Keyed.{item_at, added}
use Rattle.sorted_lists.proofs.EntryLemmas.{found, inserted, AreRanked-inserted}
use Rattle.sorted_lists.proofs.trees.SortedTree.put.Goals as goal

pub invariant_of-self : goal.invariant_of-self
invariant_of-self g c =
    let es = c.self.inside.tree.entries in
    AreRanked-inserted g.T.HasRank.rank_of c.args.item es _ c.self.invariant
    (c.in-Ok.ensures.entries ∙ ap (λ (k : ℕ). insert_entry nat_cmp es k c.args.item) c.rank-rank.ensures)

pub returns-in-Ok-clause-old : goal.returns-in-Ok-clause-old
returns-in-Ok-clause-old g c =
    let rank = g.T.HasRank.rank_of in
    let es = c.self.inside.tree.entries in
    c.in-Ok.ensures.old ∙ ap (λ (k : ℕ). lookup (is_at (nat_cmp k)) es) c.rank-rank.ensures
    ∙ found rank (rank c.args.item) es c.self.invariant.keyed ∙ ap (λ l. item_at rank (rank c.args.item) l) c.self.view_is

pub returns-in-Ok-clause-ok : goal.returns-in-Ok-clause-ok
returns-in-Ok-clause-ok g c =
    let rank = g.T.HasRank.rank_of in
    let es = c.self.inside.tree.entries in
    ap (λ l. values_of l) (c.in-Ok.ensures.entries ∙ ap (λ (k : ℕ). insert_entry nat_cmp es k c.args.item) c.rank-rank.ensures)
    ∙ inserted rank c.args.item 0 es c.self.invariant.keyed c.self.invariant.ascending ∙ ap (λ l. added rank c.args.item l) c.self.view_is

pub returns-clause-known : goal.returns-clause-known
returns-clause-known g c there =
    let rank = g.T.HasRank.rank_of in
    let es = c.self.inside.tree.entries in
    absurd (there (ap (λ l. item_at rank (rank c.args.item) l) (sym c.self.view_is) ∙ sym (found rank (rank c.args.item) es c.self.invariant.keyed)
    ∙ ap (λ (k : ℕ). lookup (is_at (nat_cmp k)) es) (sym c.rank-rank.ensures) ∙ c.in-Err.ensures.absent))
