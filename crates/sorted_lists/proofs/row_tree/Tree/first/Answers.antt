use Rattle.std.proofs.Common.{◌≡◌, ◌∙◌, ◌*◌, ℕ, Some, None, Option, ap, sym, subst, arith}
use Rattle.sorted_lists.specs.Row.{IsNextBit}
use Rattle.sorted_lists.proofs.TreeLemmas.{none_told, first_told, word-range}
use Rattle.sorted_lists.proofs.row_tree.Tree.first.Goals as goal

pub overflow_mul-word : goal.overflow_mul-word
overflow_mul-word c =
    let top = subst (λ o. IsNextBit c.self.inside.tops.items 0 o) c.in-Some.is (subst (λ l. IsNextBit l 0 c.next_bit.result) c.deref.ensures.value c.next_bit.ensures) in
    omega (arith, word-range c.self.inside.leaves.items c.self.inside.tops.items c.in-Some.word c.self.invariant top)

pub returns-in-Some : goal.returns-in-Some
returns-in-Some c =
    let top = subst (λ o. IsNextBit c.self.inside.tops.items 0 o) c.in-Some.is (subst (λ l. IsNextBit l 0 c.next_bit.result) c.deref.ensures.value c.next_bit.ensures) in
    let next = subst (λ l. IsNextBit l (64 * c.in-Some.word) c.next_bit-in-Some.result) c.deref-in-Some.ensures.value c.next_bit-in-Some.ensures in
    subst (λ l. IsNextBit l 0 c.next_bit-in-Some.result) c.self.view_is (first_told c.self.inside.leaves.items c.self.inside.tops.items c.in-Some.word c.next_bit-in-Some.result c.self.invariant top next)

pub returns-in-None : goal.returns-in-None
returns-in-None c =
    let top = subst (λ o. IsNextBit c.self.inside.tops.items 0 o) c.in-None.is (subst (λ l. IsNextBit l 0 c.next_bit.result) c.deref.ensures.value c.next_bit.ensures) in
    subst (λ l. IsNextBit l 0 None) c.self.view_is (none_told c.self.inside.leaves.items c.self.inside.tops.items c.self.invariant top)
