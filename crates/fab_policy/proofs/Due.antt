-- One moment at most is due, and the next tick is the lesser of it and of the window of the next frames.
use Rattle.std.proofs.Common.{◌≡◌, ℕ, zero, suc, ◌%◌, ◌<◌, ◌≤◌, ◌⊎◌, inl, inr, Bool, true, false, ◌&&◌, ◌==◌, nat_lt, IsTrue, IsSome, Option, Some, None, IfSome, refl, sym, ap, subst, ◌∙◌, arith, below_more}
use Rattle.std.proofs.lemmas.Bool.{cases_order, and_parts}
use Rattle.std.proofs.lemmas.Bool.Decides.{nat_tests}
use Rattle.fab_config.specs.Settings.{Settings}
use Rattle.fab_policy.specs.Due.{DueIsOne, IsLesserBy, NextTickByIsLesser, NextTickIsLesser}
use Rattle.fab_policy.specs.Legal.{IsDueBy, IsTickTimeAt, is_tick_owed}
use Rattle.fab_policy.specs.Outputs.{State, state_of}

not_both : (b : Bool) → b ≡ true → b ≡ false → ⊥
not_both true e f = cc
not_both false e f = cc

pub due_is_one : DueIsOne
due_is_one c T advertised m n d e = by_order (cases_order m n)
  where
    by_order : (m ≡ n) ⊎ ((m < n) ⊎ (n < m)) → m ≡ n
    by_order (inl same) = same
    by_order (inr (inl lt)) = absurd (not_both _ d.owed (e.least m d.time lt))
    by_order (inr (inr lt)) = absurd (not_both _ e.owed (d.least n e.time lt))

-- ---- the least number that passes a test

abbrev IsFirst : (ℕ → Bool) → ℕ → Type 0
IsFirst p j = (p j ≡ true) × ((i : ℕ) → i < j → p i ≡ false)

-- none below n passes, or there is a least one that does
first_below : (p : ℕ → Bool) (n : ℕ) → ((i : ℕ) → i < n → p i ≡ false) ⊎ ((j : ℕ) × (j < n) × IsFirst p j)
first_below p zero = inl (λ i lt. absurd (omega arith))
first_below p (suc n) = by_test (first_below p n) (p n) refl
  where
    by_test : ((i : ℕ) → i < n → p i ≡ false) ⊎ ((j : ℕ) × (j < n) × IsFirst p j) → (b : Bool) → p n ≡ b → ((i : ℕ) → i < suc n → p i ≡ false) ⊎ ((j : ℕ) × (j < suc n) × IsFirst p j)
    by_test (inr found) b e = inr (found.0, omega (arith, found.1), found.2)
    by_test (inl none) true e = inr (n, omega arith, (e, none))
    by_test (inl none) false e = inl (λ i lt. below_more (λ k. p k ≡ false) n none e i (omega arith))

-- ---- the next tick

module _ (c : Settings) (S : State) (t : ℕ) (is : S.tables.clock ≡ Some t) where
  above : (m : ℕ) → IfSome (S.tables.clock) (λ u. u < m) → t < m
  above m h = subst (λ o. IfSome o (λ u. u < m)) is h

  time_at : (m : ℕ) → m % c.window ≡ 0 → t < m → IsTickTimeAt c S.tables.clock m
  time_at m even lt = (even, subst (λ o. IfSome o (λ u. u < m)) (sym is) lt)

  begun : IsSome S.tables.clock
  begun = ap (λ o. some o) is
    where
      some : Option ℕ → Bool
      some (Some x) = true
      some None = false

  -- the moments at which a tick may be and is owed
  wanted : ℕ → Bool
  wanted m = (m % c.window == 0) && (nat_lt t m && is_tick_owed c S.tables S.advertised m)

  is_wanted : (m : ℕ) → IsTickTimeAt c S.tables.clock m → wanted m ≡ is_tick_owed c S.tables S.advertised m
  unfolding wanted
  is_wanted m h =
      ap (λ b. b && (nat_lt t m && is_tick_owed c S.tables S.advertised m)) (even m h.0) ∙ ap (λ b. b && is_tick_owed c S.tables S.advertised m) (lower m (above m h.1))
    where
      even : (k : ℕ) → k % c.window ≡ 0 → (k % c.window == 0) ≡ true
      even k e = grind (arith, nat_tests)

      lower : (k : ℕ) → t < k → nat_lt t k ≡ true
      lower k lt = grind (arith, nat_tests)

  of_wanted : (m : ℕ) → wanted m ≡ true → IsTickTimeAt c S.tables.clock m × (is_tick_owed c S.tables S.advertised m ≡ true)
  unfolding wanted
  of_wanted m e =
      let first = and_parts (m % c.window == 0) (nat_lt t m && is_tick_owed c S.tables S.advertised m) e in
      let second = and_parts (nat_lt t m) (is_tick_owed c S.tables S.advertised m) first.1 in
      (time_at m (even (m % c.window) first.0) (lower m second.0), second.1)
    where
      even : (k : ℕ) → (k == 0) ≡ true → k ≡ 0
      even k e = grind (arith, nat_tests)

      lower : (k : ℕ) → nat_lt t k ≡ true → t < k
      lower k lt = grind (arith, nat_tests)

  -- the first of these is due
  due_first : (j : ℕ) → IsFirst wanted j → IsDueBy c S j
  due_first j h =
      let at = of_wanted j h.0 in
      record { begun = begun; time = at.0; owed = at.1; least = λ k time lt. sym (is_wanted k time) ∙ h.1 k lt }

  -- none is owed before a moment before which none is due
  none_owed : (w : ℕ) → ((k : ℕ) → IsDueBy c S k → w ≤ k) → (k : ℕ) → IsTickTimeAt c S.tables.clock k → k < w → is_tick_owed c S.tables S.advertised k ≡ false
  none_owed w later k time lt = by_first (first_below wanted w)
    where
      by_first : ((i : ℕ) → i < w → wanted i ≡ false) ⊎ ((j : ℕ) × (j < w) × IsFirst wanted j) → is_tick_owed c S.tables S.advertised k ≡ false
      by_first (inl none) = sym (is_wanted k time) ∙ none k lt
      by_first (inr found) = absurd (omega (arith, later found.0 (due_first found.0 found.2), found.1))

  -- the next tick by a clock
  abbrev NextAt : ℕ → ℕ → Type 0
  NextAt w m = (t < m) × (m ≤ w) × ((m ≡ w) ⊎ IsTrue (is_tick_owed c S.tables S.advertised m)) × (m % c.window ≡ 0) × ((k : ℕ) → IsTickTimeAt c S.tables.clock k → k < m → is_tick_owed c S.tables S.advertised k ≡ false)

  lesser_of : (w m : ℕ) → NextAt w m → IsLesserBy c S w m
  lesser_of w m h = by_kind h.2 (cases_order m w)
    where
      no_earlier : m ≡ w → (k : ℕ) → IsDueBy c S k → w ≤ k
      no_earlier same k d = by_order (cases_order w k)
        where
          by_order : (w ≡ k) ⊎ ((w < k) ⊎ (k < w)) → w ≤ k
          by_order (inl e) = omega (arith, e)
          by_order (inr (inl lt)) = omega arith
          by_order (inr (inr lt)) = absurd (not_both _ d.owed (h.4 k d.time (omega (arith, same, lt))))

      by_kind : (m ≡ w) ⊎ IsTrue (is_tick_owed c S.tables S.advertised m) → (m ≡ w) ⊎ ((m < w) ⊎ (w < m)) → IsLesserBy c S w m
      by_kind (inl same) order = inl (same, no_earlier same)
      by_kind (inr owed) (inl same) = inl (same, no_earlier same)
      by_kind (inr owed) (inr (inl lt)) = inr (record { begun = begun; time = time_at m h.3 h.0; owed = owed; least = h.4 }, lt)
      by_kind (inr owed) (inr (inr gt)) = absurd (omega (arith, h.1, gt))

  next_of : (w m : ℕ) → t < w → w % c.window ≡ 0 → IsLesserBy c S w m → NextAt w m
  next_of w m lt even (inl h) = (
    subst (λ k. t < k) (sym h.0) lt,
    omega (arith, h.0),
    inl h.0,
    ap (λ k. k % c.window) h.0 ∙ even,
    λ k time before. none_owed w h.1 k time (omega (arith, h.0, before)),
  )
  next_of w m lt even (inr h) = (above m h.0.time.1, omega (arith, h.1), inr h.0.owed, h.0.time.0, h.0.least)

pub next_tick_by_is_lesser : NextTickByIsLesser
next_tick_by_is_lesser c S t w m is lt even = (λ h. lesser_of c S t is w m (subst Next is h), λ h. subst Next (sym is) (next_of c S t is w m lt even h))
  where
    Next : Option ℕ → Type 0
    Next o = elim o as (λ _. Type 0) [
      | None ↦ m ≡ w
      | Some t ↦ (t < m) × (m ≤ w) × ((m ≡ w) ⊎ IsTrue (is_tick_owed c S.tables S.advertised m)) × (m % c.window ≡ 0)
          × ((k : ℕ) → IsTickTimeAt c S.tables.clock k → k < m → is_tick_owed c S.tables S.advertised k ≡ false)
    ]

-- what a journal says is a state
pub next_tick_is_lesser : NextTickIsLesser
next_tick_is_lesser c J t w m is lt even = next_tick_by_is_lesser c (state_of c J) t w m is lt even
