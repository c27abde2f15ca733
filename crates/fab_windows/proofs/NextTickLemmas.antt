-- The next tick on the way to a window is found by counting up from the clock.
use Rattle.std.proofs.Common.{◌≡◌, ℕ, zero, suc, ◌+◌, ◌-◌, ◌^◌, ◌<◌, ◌≤◌, ◌%◌, ◌⊎◌, inl, inr, Bool, true, false, ◌==◌, ◌&&◌, IsTrue, IfSome, List, [], ◌∷◌, Option, Some, None, refl, sym, ap, subst, ◌∙◌, arith}
use Rattle.std.proofs.lemmas.Bool.{and_parts, eqb-true, eq-eqb, cases_order}
use Rattle.fab_config.specs.Settings.{Settings, is_in_range}
use Rattle.fab_policy.specs.Journal.{Journal, clock, followed}
use Rattle.fab_policy.specs.Legal.{IsNextTick, IsTickTime, Legal, is_owed_after}
use Rattle.fab_policy.specs.Ranged.{IsRanged}
use Rattle.fab_policy.specs.State.{addresses, overdue, tables_of}
use Rattle.fab_policy.specs.declared.event.Event.{Event}
use Rattle.fab_policy.specs.declared.event.Event.TheVariants.{Tick}
use Rattle.fab_policy.proofs.Quiet.{tables_ascend}
use Rattle.fab_policy.proofs.Ticks.{ends_of_ticks}
use Rattle.fab_windows.specs.Onward.{NextTicksExist, AreTicks, TicksExist}

-- ---- one tick

-- what the next tick is, by the clock
abbrev NextAt : Settings → Journal → ℕ → ℕ → Option ℕ → Type 0
NextAt c J w m o = elim o as (λ _. Type 0) [
  | None ↦ m ≡ w
  | Some t ↦ (t < m) × (m ≤ w) × ((m ≡ w) ⊎ IsTrue (is_owed_after c J m)) × (m % c.window ≡ 0)
      × ((k : ℕ) → IsTickTime c J k → k < m → is_owed_after c J k ≡ false)
]

-- none of the moments for a tick below this one has one
abbrev NoneBelow : Settings → Journal → ℕ → Type 0
NoneBelow c J s = (k : ℕ) → IsTickTime c J k → k < s → is_owed_after c J k ≡ false

owed_not : (b : Bool) (o : Bool) → b ≡ true → (b && o) ≡ false → o ≡ false
owed_not true o e h = h
owed_not false o e h = absurd (let w : false ≡ true = e in cc)

none_more : (c : Settings) (J : Journal) (s : ℕ) → NoneBelow c J s → (s % c.window == 0 && is_owed_after c J s) ≡ false → NoneBelow c J (s + 1)
none_more c J s none not_here k time lt = go (cases_order k s)
  where
    go : (k ≡ s) ⊎ ((k < s) ⊎ (s < k)) → is_owed_after c J k ≡ false
    go (inl e) = ap (is_owed_after c J) e ∙ owed_not (s % c.window == 0) (is_owed_after c J s) (eq-eqb (s % c.window) 0 (ap (λ (n : ℕ). n % c.window) (sym e) ∙ time.0)) not_here
    go (inr (inl below)) = none k time below
    go (inr (inr above)) = absurd (omega (arith, lt, above))

search_from : (c : Settings) (J : Journal) (w t n s : ℕ) → s + n ≡ w → t < s → w % c.window ≡ 0 → NoneBelow c J s → (m : ℕ) × NextAt c J w m (Some t)
search_from c J w t zero s at lt whole none = (
  w,
  (
    let e = at in omega (arith, e, lt),
    let le : w ≤ w = omega arith in le,
    inl refl,
    whole,
    λ k time less. none k time (omega (arith, less, at)),
  ),
)
search_from c J w t (suc n) s at lt whole none = go (s % c.window == 0 && is_owed_after c J s) refl (search_from c J w t n (s + 1) (omega (arith, at)) (omega (arith, lt)) whole)
  where
    go : (b : Bool) → (s % c.window == 0 && is_owed_after c J s) ≡ b → (NoneBelow c J (s + 1) → (m : ℕ) × NextAt c J w m (Some t)) → (m : ℕ) × NextAt c J w m (Some t)
    go true here later =
        let both = and_parts (s % c.window == 0) (is_owed_after c J s) here in
        (s, (lt, omega (arith, at), inr both.1, eqb-true (s % c.window) 0 both.0, none))
    go false here later = later (none_more c J s none here)

next_at : (c : Settings) (J : Journal) (w : ℕ) (o : Option ℕ) → clock J ≡ o → IfSome o (λ t. t < w) → w % c.window ≡ 0 → (m : ℕ) × NextAt c J w m o
next_at c J w None is below whole = (w, refl)
next_at c J w (Some t) is below whole =
    search_from c J w t (w - (t + 1)) (t + 1) (omega (arith, below)) (omega arith) whole
    (λ k time lt. absurd (let after : t < k = subst (λ (o : Option ℕ). IfSome o (λ u. u < k)) is time.1 in omega (arith, after, lt)))

pub next_ticks_exist : NextTicksExist
next_ticks_exist c J w below whole =
    let next = next_at c J w (clock J) refl below whole in
    (next.0, next.1)

-- ---- all ticks on the way

within : (w m : ℕ) (o : Option ℕ) (c : Settings) (J : Journal) → NextAt c J w m o → m ≤ w
within w m None c J h = let e = h in omega (arith, e)
within w m (Some t) c J h = h.1

above : (w m : ℕ) (o : Option ℕ) (c : Settings) (J : Journal) → NextAt c J w m o → IfSome o (λ t. t < m)
above w m None c J h = tt
above w m (Some t) c J h = h.0

-- how far the clock is from the window
abbrev far : ℕ → Option ℕ → ℕ
far w None = w + 1
far w (Some t) = w - t

nearer : (w m n : ℕ) (o : Option ℕ) → IfSome o (λ t. t < w) → IfSome o (λ t. t < m) → m ≤ w → far w o ≤ suc n → far w (Some m) ≤ n
nearer w m n None below less le f = omega (arith, f)
nearer w m n (Some t) below less le f = omega (arith, below, less, le, f)

at_or_below : (w : ℕ) (o : Option ℕ) → IfSome o (λ t. t ≤ w) → (o ≡ Some w) ⊎ IfSome o (λ t. t < w)
at_or_below w None le = inr tt
at_or_below w (Some t) le = go (cases_order t w)
  where
    go : (t ≡ w) ⊎ ((t < w) ⊎ (w < t)) → (Some t ≡ Some w) ⊎ (t < w)
    go (inl e) = inl (ap (λ (x : ℕ). Some x) e)
    go (inr (inl less)) = inr less
    go (inr (inr more)) = absurd (omega (arith, more, le))

-- what stands behind the ticks to a window
abbrev Ticked : Settings → Journal → ℕ → List Event → Type 0
Ticked c J w ticks = AreTicks c w J ticks × Legal c (followed J ticks) × IsRanged (followed J ticks)

none_far : (w : ℕ) (o : Option ℕ) → IfSome o (λ t. t < w) → far w o ≤ 0 → ⊥
none_far w None below f = omega (arith, f)
none_far w (Some t) below f = omega (arith, below, f)

ticks_from : (c : Settings) (w n : ℕ) (J : Journal) → IsTrue (is_in_range c) → w % c.window ≡ 0 → w < 2 ^ 64 → IfSome (clock J) (λ t. t ≤ w) → far w (clock J) ≤ n → Legal c J → IsRanged J → (ticks : List Event) × Ticked c J w ticks
ticks_from c w zero J range whole small le f legal ranged = go (at_or_below w (clock J) le)
  where
    go : (clock J ≡ Some w) ⊎ IfSome (clock J) (λ t. t < w) → (ticks : List Event) × Ticked c J w ticks
    go (inl e) = ([], (e, legal, ranged))
    go (inr below) = absurd (none_far w (clock J) below f)
ticks_from c w (suc n) J range whole small le f legal ranged =
    go (at_or_below w (clock J) le) (λ m less. ticks_from c w n (Tick m (addresses (overdue c (tables_of c J) m)) ∷ J) range whole small less)
  where
    go : (clock J ≡ Some w) ⊎ IfSome (clock J) (λ t. t < w) →
        ((m : ℕ) → m ≤ w → far w (Some m) ≤ n → Legal c (Tick m (addresses (overdue c (tables_of c J) m)) ∷ J) → IsRanged (Tick m (addresses (overdue c (tables_of c J) m)) ∷ J) →
        (ticks : List Event) × Ticked c (Tick m (addresses (overdue c (tables_of c J) m)) ∷ J) w ticks) → (ticks : List Event) × Ticked c J w ticks
    go (inl e) later = ([], (e, legal, ranged))
    go (inr below) later =
        let next = next_at c J w (clock J) refl below whole in
        let m = next.0 in
        let ended = addresses (overdue c (tables_of c J) m) in
        let fits = within w m (clock J) c J next.1 in
        let more = later m fits (nearer w m n (clock J) below (above w m (clock J) c J next.1) fits f) (legal, refl) (ranged, (omega (arith, fits, small), ends_of_ticks c (tables_of c J) m range (tables_ascend c J))) in
        (Tick m ended ∷ more.0, ((next.1, more.1.0), more.1.1, more.1.2))

pub ticks_exist : TicksExist
ticks_exist c J w range whole small le legal ranged =
    let all = ticks_from c w (far w (clock J)) J range whole small le (let e : far w (clock J) ≤ far w (clock J) = omega arith in e) legal ranged in
    (all.0, all.1.0, all.1.1, all.1.2)
