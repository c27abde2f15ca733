use Rattle.std.proofs.Common.{◌≡◌, ◌/◌, ℕ, get_or, sym, subst}
use Rattle.sorted_lists.proofs.TreeLemmas.{tree_emptied}
use Rattle.sorted_lists.proofs.row_tree.Tree.clear.Goals as goal

pub invariant_of-self : goal.invariant_of-self
invariant_of-self c =
    let empty = sym (subst (λ (n : ℕ). n ≡ get_or c.clear_bit.new.row.items (c.args.place / 64) n) c.if-index-eq0.true c.index.ensures) in
    tree_emptied c.self.inside.leaves.items c.self.inside.tops.items _ _ c.args.place c.self.invariant c.clear_bit.ensures.bits c.clear_bit.ensures.words empty c.clear_bit-then-index-eq0.ensures.bits c.clear_bit-then-index-eq0.ensures.words
