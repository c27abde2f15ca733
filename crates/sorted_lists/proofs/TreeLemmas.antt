-- What a row says of the row under it.
use Rattle.std.proofs.Common.{◌≡◌, ◌≢◌, ℕ, ◌+◌, ◌*◌, ◌/◌, ◌<◌, ◌≤◌, ◌^◌, ◌==◌, ◌&&◌, ◌⊎◌, inl, inr, not, Bool, true, false, List, length, get_or, Option, Some, None, refl, sym, ◌∙◌, ap, arith}
use mathlib.Core.Bool.{false≢true}
use Rattle.std.proofs.lemmas.Bool.{cases_lt, cases_eq}
use Rattle.std.proofs.lemmas.Bool.Decides.{nat_tests}
use Rattle.sorted_lists.specs.Row.{has, IsNextBit}
use Rattle.sorted_lists.specs.Tree.{IsTree}
use Rattle.sorted_lists.proofs.RowLemmas.{has-zero_word, has-past}

fails : (b : Bool) → (b ≡ true → ⊥) → b ≡ false
fails true e = absurd (e refl)
fails false e = refl

-- no word that isn't told has a bit
pub none_told : (leaves tops : List ℕ) → IsTree leaves tops → IsNextBit tops 0 None → IsNextBit leaves 0 None
none_told leaves tops tree none q from = fails (has leaves q) (λ e. false≢true (sym (none (q / 64) (omega arith)) ∙ tree.told q e))

-- the first in or behind the first word that is told is the first
pub first_told : (leaves tops : List ℕ) (word : ℕ) (r : Option ℕ) → IsTree leaves tops → IsNextBit tops 0 (Some word) → IsNextBit leaves (64 * word) r → IsNextBit leaves 0 r
first_told leaves tops word r tree top next = go r next
  where
    before : (q : ℕ) → q < 64 * word → has leaves q ≡ false
    before q lt = fails (has leaves q) (λ e. false≢true (sym (top.2 (q / 64) (omega arith) (omega arith)) ∙ tree.told q e))

    go : (o : Option ℕ) → IsNextBit leaves (64 * word) o → IsNextBit leaves 0 o
    go None none = λ q from. by q (cases_lt q (64 * word)) none
      where
        by : (q : ℕ) → (q < 64 * word) ⊎ (64 * word ≤ q) → ((p : ℕ) → 64 * word ≤ p → has leaves p ≡ false) → has leaves q ≡ false
        by q (inl lt) none = before q lt
        by q (inr ge) none = none q ge
    go (Some n) some = (omega arith, some.1, λ q from lt. by q lt (cases_lt q (64 * word)) some)
      where
        by : (q : ℕ) → q < n → (q < 64 * word) ⊎ (64 * word ≤ q) → IsNextBit leaves (64 * word) (Some n) → has leaves q ≡ false
        by q lt (inl less) some = before q less
        by q lt (inr ge) some = some.2 q ge lt

kept_bit : (place q : ℕ) (b c : Bool) → b ≡ (not (place == q) && c) → b ≡ true → c ≡ true
kept_bit place q b c e f = go (not (place == q)) c (sym e ∙ f)
  where
    go : (s c : Bool) → (s && c) ≡ true → c ≡ true
    go true c e = e
    go false c e = absurd (false≢true e)

-- a bit is cleared, and its word still has some
pub tree_cleared : (leaves tops new : List ℕ) (place : ℕ) → IsTree leaves tops → ((q : ℕ) → has new q ≡ (not (place == q) && has leaves q)) → length new ≡ length leaves → IsTree new tops
tree_cleared leaves tops new place tree bits words = record {
  told = λ q e. tree.told q (kept_bit place q (has new q) (has leaves q) (bits q) e);
  wide = omega (arith, tree.wide, words);
  few = omega (arith, tree.few, words);
  few_tops = tree.few_tops;
}

-- or none, and is told no more
pub tree_emptied : (leaves tops new above : List ℕ) (place : ℕ) → IsTree leaves tops → ((q : ℕ) → has new q ≡ (not (place == q) && has leaves q)) → length new ≡ length leaves
    → get_or new (place / 64) 0 ≡ 0 → ((q : ℕ) → has above q ≡ (not (place / 64 == q) && has tops q)) → length above ≡ length tops → IsTree new above
tree_emptied leaves tops new above place tree bits words zero_word tops_bits tops_words = record {
  told = told;
  wide = omega (arith, tree.wide, words, tops_words);
  few = omega (arith, tree.few, words);
  few_tops = omega (arith, tree.few_tops, tops_words);
}
  where
    differs : (m n : ℕ) → m ≢ n → (m == n) ≡ false
    differs m n ne = grind (arith, nat_tests)

    told : (q : ℕ) → has new q ≡ true → has above (q / 64) ≡ true
    told q e = by (cases_eq (place / 64) (q / 64))
      where
        by : (place / 64 ≡ q / 64) ⊎ (place / 64 ≢ q / 64) → has above (q / 64) ≡ true
        by (inl same) = absurd (false≢true (sym (has-zero_word new q (ap (λ (n : ℕ). get_or new n 0) (sym same) ∙ zero_word)) ∙ e))
        by (inr other) =
            tops_bits (q / 64) ∙ ap (λ b. not b && has tops (q / 64)) (differs (place / 64) (q / 64) other)
            ∙ tree.told q (kept_bit place q (has new q) (has leaves q) (bits q) e)

-- all bits are set
pub tree_full : (places : ℕ) (leaves tops : List ℕ) → places < 2 ^ 32 → length leaves ≡ places / 64 + 1 → length tops ≡ (places / 64 + 1) / 64 + 1 → ((q : ℕ) → q < places / 64 + 1 → has tops q ≡ true) → IsTree leaves tops
tree_full places leaves tops range words tops_words full = record {
  told = told;
  wide = omega (arith, words, tops_words);
  few = omega (arith, words, range);
  few_tops = omega (arith, tops_words, range);
}
  where
    told : (q : ℕ) → has leaves q ≡ true → has tops (q / 64) ≡ true
    told q e = by (cases_lt (q / 64) (length leaves))
      where
        by : (q / 64 < length leaves) ⊎ (length leaves ≤ q / 64) → has tops (q / 64) ≡ true
        by (inl lt) = full (q / 64) (omega (arith, words, lt))
        by (inr ge) = absurd (false≢true (sym (has-past leaves q ge) ∙ e))

-- a word that is told is one of few
pub word-range : (leaves tops : List ℕ) (word : ℕ) → IsTree leaves tops → IsNextBit tops 0 (Some word) → word < 2 ^ 38
word-range leaves tops word tree top = by (cases_lt (word / 64) (length tops))
  where
    by : (word / 64 < length tops) ⊎ (length tops ≤ word / 64) → word < 2 ^ 38
    by (inl lt) = omega (arith, lt, tree.few_tops)
    by (inr ge) = absurd (false≢true (sym (has-past tops word ge) ∙ top.1))
