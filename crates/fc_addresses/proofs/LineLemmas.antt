-- The places whose login ended, kept in order under another number: what is found there, and what a change of one place changes.
use Rattle.std.proofs.Common.{◌≡◌, ◌≢◌, ℕ, zero, suc, ◌+◌, ◌^◌, ◌<◌, ◌≤◌, ◌⊎◌, inl, inr, Bool, true, false, cond, if◌then◌else◌, List, [], ◌∷◌, length, get_or, set, filter, replicate, Option, Some, None, refl, sym, ◌∙◌, ap, subst, arith}
use Rattle.std.proofs.lemmas.List.{get_or-set_same, get_or-set_other, length-set, get_or-replicate, length-replicate}
use Rattle.std.proofs.lemmas.Bool.{cases_eq}
use Rattle.fab_base.specs.Keyed.{item_at, added, without}
use Rattle.fab_base.proofs.KeyedLemmas as keyed
use Rattle.sorted_lists.proofs.IndexLemmas.{key_found, length-gone, found-without, kept-without, found-added, here-added, kept-added, none_some, some_same}
use Rattle.fc_addresses.specs.Holders.{nobody, is_released, IsLine}
use Rattle.fc_addresses.specs.declared.pool.Holder.{Holder}

-- ---- how many logins ended

abbrev one_if : Bool → ℕ
one_if b = if b then 1 else 0

count-set : (l : List Holder) (k : ℕ) (h d : Holder) → k < length l → length (filter is_released (set l k h)) + one_if (is_released (get_or l k d)) ≡ length (filter is_released l) + one_if (is_released h)
count-set [] k h d lt = absurd (omega arith)
count-set (x ∷ l) zero h d lt = go (is_released x) (is_released h)
  where
    go : (a b : Bool) → length (cond b (h ∷ filter is_released l) (filter is_released l)) + one_if a ≡ length (cond a (x ∷ filter is_released l) (filter is_released l)) + one_if b
    go true true = refl
    go true false = omega arith
    go false true = omega arith
    go false false = refl
count-set (x ∷ l) (suc k) h d lt = go (is_released x) (count-set l k h d (omega arith))
  where
    go : (a : Bool) → length (filter is_released (set l k h)) + one_if (is_released (get_or l k d)) ≡ length (filter is_released l) + one_if (is_released h)
        → length (cond a (x ∷ filter is_released (set l k h)) (filter is_released (set l k h))) + one_if (is_released (get_or l k d)) ≡ length (cond a (x ∷ filter is_released l) (filter is_released l)) + one_if (is_released h)
    go true rest = omega (arith, rest)
    go false rest = rest

count-most : (l : List Holder) → length (filter is_released l) ≤ length l
count-most [] = omega arith
count-most (x ∷ l) = go (is_released x) (count-most l)
  where
    go : (a : Bool) → length (filter is_released l) ≤ length l → length (cond a (x ∷ filter is_released l) (filter is_released l)) ≤ suc (length l)
    go true rest = omega (arith, rest)
    go false rest = omega (arith, rest)

-- fewer than there are places, where some place isn't one of them
pub count-less : (l : List Holder) (k : ℕ) (d : Holder) → k < length l → is_released (get_or l k d) ≡ false → length (filter is_released l) < length l
count-less [] k d lt other = absurd (omega arith)
count-less (x ∷ l) zero d lt other = omega (arith, ap (λ b. length (cond b (x ∷ filter is_released l) (filter is_released l))) other, count-most l)
count-less (x ∷ l) (suc k) d lt other = go (is_released x) (count-less l k d (omega arith) other)
  where
    go : (a : Bool) → length (filter is_released l) < length l → length (cond a (x ∷ filter is_released l) (filter is_released l)) < suc (length l)
    go true rest = omega (arith, rest)
    go false rest = omega (arith, rest)

count-none : (n : ℕ) → length (filter is_released (replicate n nobody)) ≡ 0
count-none zero = refl
count-none (suc n) = count-none n

-- ---- a change of one place

module _ {D : Type 0} (rank place : D → ℕ) (entry : ℕ → Holder → Option D)
    (placed : (k : ℕ) (h : Holder) (d : D) → entry k h ≡ Some d → place d ≡ k)
    (apart : (d e : D) → place d < 2 ^ 32 → place e < 2 ^ 32 → rank d ≡ rank e → place d ≡ place e)
    (holders : List Holder) (line : List D) (is_line : IsLine rank place entry holders line) (range : length holders < 2 ^ 32)
    (k : ℕ) (lt : k < length holders) (h : Holder) where
  old : Holder
  old = get_or holders k nobody

  told_other : (j : ℕ) (d : D) → j ≢ k → j < length (set holders k h) → entry j (get_or (set holders k h) j nobody) ≡ Some d → item_at rank (rank d) line ≡ Some d
  told_other j d other within e = is_line.told j d (omega (arith, within, length-set holders k h)) (ap (entry j) (sym (get_or-set_other holders k j h nobody other)) ∙ e)

  made_other : (d : D) (n : ℕ) → item_at rank n line ≡ Some d → place d ≢ k → (place d < length (set holders k h)) × (entry (place d) (get_or (set holders k h) (place d) nobody) ≡ Some d)
  made_other d n found other =
      let made = is_line.made n d found in
      (omega (arith, made.0, length-set holders k h), ap (entry (place d)) (get_or-set_other holders k (place d) h nobody other) ∙ made.1)

  -- a place that has no entry gets one
  module _ (d : D) (had : entry k (get_or holders k nobody) ≡ None) (has : entry k h ≡ Some d) where
    pub absent_line : item_at rank (rank d) line ≡ None
    absent_line = go (item_at rank (rank d) line) refl
      where
        go : (o : Option D) → item_at rank (rank d) line ≡ o → o ≡ None
        go None e = refl
        go (Some f) e =
            let made = is_line.made (rank d) f e in
            let here = placed k h d has in
            let same : place f ≡ k = apart f d (omega (arith, made.0, range)) (omega (arith, here, lt, range)) (key_found rank (rank d) f line e) ∙ here in
            absurd (none_some f (sym had ∙ subst (λ j. entry j (get_or holders j nobody) ≡ Some f) same made.1))

    pub line_added : is_released (get_or holders k nobody) ≡ false → is_released h ≡ true → IsLine rank place entry (set holders k h) (added rank d line)
    line_added was now = record {
      ascending = keyed.AscendFrom-added rank d 0 line is_line.ascending (omega arith);
      told = λ j e within is. told j e within is (cases_eq j k);
      made = λ n e found. made n e (found-added rank d n e line found);
      count =
          keyed.length-added rank d 0 line is_line.ascending absent_line
          ∙ (let c = count-set holders k h nobody lt in omega (arith, is_line.count, ap one_if was, ap one_if now, c));
    }
      where
        told : (j : ℕ) (e : D) → j < length (set holders k h) → entry j (get_or (set holders k h) j nobody) ≡ Some e → (j ≡ k) ⊎ (j ≢ k) → item_at rank (rank e) (added rank d line) ≡ Some e
        told j e within is (inl same) =
            let equal : e ≡ d = some_same e d (sym is ∙ ap (λ i. entry i (get_or (set holders k h) i nobody)) same ∙ ap (entry k) (get_or-set_same holders k h nobody lt) ∙ has) in
            subst (λ z. item_at rank (rank z) (added rank d line) ≡ Some z) (sym equal) (here-added rank d line)
        told j e within is (inr other) = kept-added rank d (rank e) e line absent_line (told_other j e other within is)

        made : (n : ℕ) (e : D) → ((rank d ≡ n) × (d ≡ e)) ⊎ (item_at rank n line ≡ Some e) → (place e < length (set holders k h)) × (entry (place e) (get_or (set holders k h) (place e) nobody) ≡ Some e)
        made n e (inl same) = subst (λ z. (place z < length (set holders k h)) × (entry (place z) (get_or (set holders k h) (place z) nobody) ≡ Some z)) same.1 (
          omega (arith, placed k h d has, lt, length-set holders k h),
          ap (λ i. entry i (get_or (set holders k h) i nobody)) (placed k h d has) ∙ ap (entry k) (get_or-set_same holders k h nobody lt) ∙ has,
        )
        made n e (inr found) = made_other e n found (λ same. none_some e (sym had ∙ subst (λ j. entry j (get_or holders j nobody) ≡ Some e) same (is_line.made n e found).1))

  -- a place that has an entry has none any more
  pub line_gone : (d : D) → entry k (get_or holders k nobody) ≡ Some d → entry k h ≡ None → is_released (get_or holders k nobody) ≡ true → is_released h ≡ false
      → IsLine rank place entry (set holders k h) (without rank (rank d) line)
  line_gone d had has was now = record {
    ascending = keyed.AscendFrom-filter rank _ 0 line is_line.ascending;
    told = λ j e within is. told j e within is (cases_eq j k);
    made = made;
    count = (let c = count-set holders k h nobody lt in let g = length-gone rank (rank d) d line is_line.ascending (is_line.told k d lt had) in omega (arith, is_line.count, ap one_if was, ap one_if now, c, g));
  }
    where
      told : (j : ℕ) (e : D) → j < length (set holders k h) → entry j (get_or (set holders k h) j nobody) ≡ Some e → (j ≡ k) ⊎ (j ≢ k) → item_at rank (rank e) (without rank (rank d) line) ≡ Some e
      told j e within is (inl same) = absurd (none_some e (sym has ∙ sym (ap (entry k) (get_or-set_same holders k h nobody lt)) ∙ sym (ap (λ i. entry i (get_or (set holders k h) i nobody)) same) ∙ is))
      told j e within is (inr other) =
          let found = told_other j e other within is in
          kept-without rank (rank d) (rank e) line (λ s. other (
          sym (placed j _ e is) ∙ ap place (some_same e d (sym found ∙ ap (λ n. item_at rank n line) (sym s) ∙ is_line.told k d lt had)) ∙ placed k _ d had)) ∙ found

      made : (n : ℕ) (e : D) → item_at rank n (without rank (rank d) line) ≡ Some e → (place e < length (set holders k h)) × (entry (place e) (get_or (set holders k h) (place e) nobody) ≡ Some e)
      made n e found =
          let before = found-without rank (rank d) n e line found in
          made_other e n before.1 (λ same.
          let equal : e ≡ d = some_same e d (sym (is_line.made n e before.1).1 ∙ ap (λ i. entry i (get_or holders i nobody)) same ∙ had) in
          before.0 (ap rank (sym equal) ∙ key_found rank n e line before.1))

  -- a place that has no entry gets none
  pub line_kept : entry k (get_or holders k nobody) ≡ None → entry k h ≡ None → is_released (get_or holders k nobody) ≡ false → is_released h ≡ false → IsLine rank place entry (set holders k h) line
  line_kept had has was now = record {
    ascending = is_line.ascending;
    told = λ j e within is. told j e within is (cases_eq j k);
    made = λ n e found. made_other e n found (λ same. none_some e (sym had ∙ subst (λ j. entry j (get_or holders j nobody) ≡ Some e) same (is_line.made n e found).1));
    count = (let c = count-set holders k h nobody lt in omega (arith, is_line.count, ap one_if was, ap one_if now, c));
  }
    where
      told : (j : ℕ) (e : D) → j < length (set holders k h) → entry j (get_or (set holders k h) j nobody) ≡ Some e → (j ≡ k) ⊎ (j ≢ k) → item_at rank (rank e) line ≡ Some e
      told j e within is (inl same) = absurd (none_some e (sym has ∙ sym (ap (entry k) (get_or-set_same holders k h nobody lt)) ∙ sym (ap (λ i. entry i (get_or (set holders k h) i nobody)) same) ∙ is))
      told j e within is (inr other) = told_other j e other within is

-- where nobody had an address there is no entry
pub line_new : {D : Type 0} (rank place : D → ℕ) (entry : ℕ → Holder → Option D) → ((k : ℕ) → entry k nobody ≡ None) → (n : ℕ) → IsLine rank place entry (replicate n nobody) []
line_new rank place entry none n = record {
  ascending = tt;
  told = λ k d lt is. absurd (none_some d (sym (none k) ∙ sym (ap (entry k) (get_or-replicate n k nobody nobody (omega (arith, lt, length-replicate {A = Holder} n nobody)))) ∙ is));
  made = λ m d found. absurd (none_some d found);
  count = sym (count-none n);
}
