-- When a tick is owed: from some moment on.
use Rattle.std.proofs.Common.{◌≡◌, ℕ, suc, ◌+◌, ◌-◌, ◌*◌, ◌/◌, ◌%◌, ◌<◌, ◌≤◌, ◌==◌, ◌||◌, ◌&&◌, not, Bool, true, false, cond, List, [], ◌∷◌, length, filter, Option, Some, None, refl, sym, ap, ◌∙◌, arith, nat_lt, nat_le, MatchOption, map, unwrap_or}
use Rattle.std.specs.List.{list_any, All, Contains}
use Rattle.std.proofs.lemmas.List.Folds.{list_any_at}
use Rattle.std.proofs.lemmas.List.Elements.{All-head, All-tail}
use Rattle.std.proofs.lemmas.Bool.Decides.{nat_tests}
use Rattle.std.proofs.Math.Nat.{div-add-mod, mul-mod_right, mul-le-mul_left}
use Rattle.fab_base.specs.Fabric.{is_silent, PORT_PERIOD}
use Rattle.fab_config.specs.Settings.{Settings}
use Rattle.fab_config.specs.declared.Activation.{Activation}
use Rattle.fab_policy.specs.Legal.{has_activation, is_tick_owed}
use Rattle.fab_policy.specs.Outputs.{is_owed}
use Rattle.fab_policy.specs.State.{LivePort, Tables, now_of, overdue, is_overdue}
use Rattle.fab_roster.specs.Changes.{IsFirstOverdue, has_overdue}
use Rattle.fab_roster.specs.Roll.{Roll}
use Rattle.forward_core.specs.Due.{reaches}
use Rattle.zone_rules.specs.Joined.{IsNextChange}

-- ---- windows

-- a multiple is its length times a count
multiple : (w k : ℕ) → k % w ≡ 0 → k ≡ w * (k / w)
multiple w k e = let d = div-add-mod k w in omega (arith, d, e)

-- the start of the window after the one of a moment
pub next_start : (w m : ℕ) → (m - m % w + w) % w ≡ 0
next_start w m =
    let d = div-add-mod m w in
    let same : m - m % w + w ≡ w * (m / w + 1) = omega (arith, d) in
    ap (λ x. x % w) same ∙ mul-mod_right w (m / w + 1)

-- and it is the first that isn't before the moment
pub first_start : (w m k : ℕ) → 1 ≤ w → (m % w ≡ 0 → ⊥) → k % w ≡ 0 → m ≤ k → m - m % w + w ≤ k
first_start w m k some off on le = go (arith_lt (m / w) (k / w) below)
  where
    dm : m ≡ w * (m / w) + m % w
    dm = sym (div-add-mod m w)

    dk : k ≡ w * (k / w)
    dk = multiple w k on

    below : (k / w ≤ m / w) → ⊥
    below h = let up = mul-le-mul_left w h in let o : m % w ≡ 0 → ⊥ = off in o (omega (arith, dm, dk, up, le))

    arith_lt : (a b : ℕ) → (b ≤ a → ⊥) → a + 1 ≤ b
    arith_lt a b h = omega (arith, h)

    go : m / w + 1 ≤ k / w → m - m % w + w ≤ k
    go h = let up = mul-le-mul_left w h in omega (arith, dm, dk, up)

-- ---- overdue

more : (n : ℕ) → not (suc n == 0) ≡ true
more n = grind (arith, nat_tests)

-- a list has some that pass where what passes isn't empty
pub some_pass : {X : Type 0} (p : X → Bool) (xs : List X) → not (length (filter p xs) == 0) ≡ list_any p xs
some_pass p [] = refl
some_pass p (x ∷ xs) = go (p x) (some_pass p xs)
  where
    go : (b : Bool) → not (length (filter p xs) == 0) ≡ list_any p xs → not (length (cond b (x ∷ filter p xs) (filter p xs)) == 0) ≡ b || list_any p xs
    go true ih = more (length (filter p xs))
    go false ih = ih

silent_later : (period heard k m : ℕ) → k ≤ m → is_silent period heard k ≡ true → is_silent period heard m ≡ true
silent_later period heard k m le t = grind (arith, nat_tests)

-- who is overdue stays so
any_later : (p q : LivePort → Bool) → ((x : LivePort) → p x ≡ true → q x ≡ true) → (xs : List LivePort) → list_any p xs ≡ true → list_any q xs ≡ true
any_later p q h [] t = t
any_later p q h (x ∷ xs) t = go (p x) (q x) (h x) t (any_later p q h xs)
  where
    go : (a b : Bool) → (a ≡ true → b ≡ true) → a || list_any p xs ≡ true → (list_any p xs ≡ true → list_any q xs ≡ true) → b || list_any q xs ≡ true
    go true b h t ih = ap (λ y. y || list_any q xs) (h refl)
    go false true h t ih = refl
    go false false h t ih = ih t

overdue_later : (period k m : ℕ) → k ≤ m → (p : LivePort) → is_silent period p.node_heard k || is_silent PORT_PERIOD p.port_heard k ≡ true
    → is_silent period p.node_heard m || is_silent PORT_PERIOD p.port_heard m ≡ true
overdue_later period k m le p t = go (is_silent period p.node_heard k) refl t
  where
    or_true : (b : Bool) → b || true ≡ true
    or_true true = refl
    or_true false = refl

    go : (b : Bool) → is_silent period p.node_heard k ≡ b → b || is_silent PORT_PERIOD p.port_heard k ≡ true
        → is_silent period p.node_heard m || is_silent PORT_PERIOD p.port_heard m ≡ true
    go true e t = ap (λ y. y || is_silent PORT_PERIOD p.port_heard m) (silent_later period p.node_heard k m le e)
    go false e t = ap (λ y. is_silent period p.node_heard m || y) (silent_later PORT_PERIOD p.port_heard k m le t) ∙ or_true (is_silent period p.node_heard m)

le_cases : (m k : ℕ) → (b : Bool) → nat_le m k ≡ b → (b ≡ true → m ≤ k) × (b ≡ false → k < m)
le_cases m k true e = ((λ t. grind (arith, nat_tests)), (λ t. grind (arith, nat_tests)))
le_cases m k false e = ((λ t. grind (arith, nat_tests)), (λ t. grind (arith, nat_tests)))

-- somebody is overdue from the first such moment on
pub overdue_from : (r : Roll) (c : Settings) (found : Option ℕ) → r.period ≡ c.period → MatchOption found (r.tables.ports ≡ []) (λ m. IsFirstOverdue r m)
    → (k : ℕ) → not (length (overdue c r.tables k) == 0) ≡ reaches found k
overdue_from r c None same none k = ap (λ (l : List LivePort). not (length (filter (is_overdue c k) l) == 0)) none
overdue_from r c (Some m) same first k =
    some_pass (is_overdue c k) r.tables.ports ∙ ap (λ q. list_any (λ p. is_silent q p.node_heard k || is_silent PORT_PERIOD p.port_heard k) r.tables.ports) (sym same) ∙ go (nat_le m k) refl
  where
    go : (b : Bool) → nat_le m k ≡ b → has_overdue r k ≡ b
    go true e =
        any_later (λ p. is_silent r.period p.node_heard m || is_silent PORT_PERIOD p.port_heard m) (λ p. is_silent r.period p.node_heard k || is_silent PORT_PERIOD p.port_heard k)
        (overdue_later r.period m k ((le_cases m k true e).0 refl)) r.tables.ports first.some
    go false e = first.before k ((le_cases m k false e).1 refl)

-- ---- activations

none_between : (changes : List Activation) (after k : ℕ) → All (λ a. a.moment ≤ after) changes → has_activation changes after k ≡ false
none_between [] after k h = refl
none_between (a ∷ changes) after k h = ap (λ b. b && nat_le a.moment k || has_activation changes after k) (not_above a.moment after (All-head (λ x. x.moment ≤ after) a changes h)) ∙ none_between changes after k (All-tail (λ x. x.moment ≤ after) a changes h)
  where
    not_above : (x y : ℕ) → x ≤ y → nat_lt y x ≡ false
    not_above x y le = grind (arith, nat_tests)

-- a moment of the list is found
found_moment : (p : ℕ → Bool) (m : ℕ) (changes : List Activation) → Contains (map (λ a. a.moment) changes) m → p m ≡ true → list_any (λ a. p a.moment) changes ≡ true
found_moment p m changes h t = sym (mapped changes) ∙ list_any_at p (map (λ a. a.moment) changes) h.0 m h.1 (ap p h.2 ∙ t)
  where
    mapped : (xs : List Activation) → list_any p (map (λ a. a.moment) xs) ≡ list_any (λ a. p a.moment) xs
    mapped [] = refl
    mapped (x ∷ xs) = ap (λ b. p x.moment || b) (mapped xs)

all_later : (changes : List Activation) (after m k : ℕ) → k < m → All (λ a. after < a.moment → m ≤ a.moment) changes → has_activation changes after k ≡ false
all_later [] after m k lt h = refl
all_later (a ∷ changes) after m k lt h = ap (λ b. b || has_activation changes after k) (one a.moment (nat_lt after a.moment) refl (All-head (λ x. after < x.moment → m ≤ x.moment) a changes h))
    ∙ all_later changes after m k lt (All-tail (λ x. after < x.moment → m ≤ x.moment) a changes h)
  where
    one : (x : ℕ) (b : Bool) → nat_lt after x ≡ b → (after < x → m ≤ x) → nat_lt after x && nat_le x k ≡ false
    one x true e h = let le = h (grind (arith, nat_tests)) in grind (arith, nat_tests)
    one x false e h = ap (λ b. b && nat_le x k) e

-- zones changed from the next change on
pub activation_from : (changes : List Activation) (after : ℕ) (found : Option ℕ) → IsNextChange changes after found → (k : ℕ) → has_activation changes after k ≡ reaches found k
activation_from changes after None h k = none_between changes after k h
activation_from changes after (Some m) h k = go (nat_le m k) refl
  where
    go : (b : Bool) → nat_le m k ≡ b → has_activation changes after k ≡ b
    go true e = found_moment (λ x. nat_lt after x && nat_le x k) m changes h.1 (above m ((le_cases m k true e).0 refl) h.0)
      where
        above : (x : ℕ) → x ≤ k → after < x → nat_lt after x && nat_le x k ≡ true
        above x le lt = grind (arith, nat_tests)
    go false e = all_later changes after m k ((le_cases m k false e).1 refl) h.2

-- ---- all three

-- what is owed by one of three, each from a moment on, is owed from the soonest on
any_owed : (a b d x y z p q : Bool) → a ≡ x → b ≡ y → d ≡ z → p ≡ (y || x) → q ≡ (p || z) → a || b || d ≡ q
any_owed a b d x y z p q e f g h i = ap (λ k. k || b || d) e ∙ (ap (λ k. x || k || d) f ∙ (ap (λ k. x || y || k) g ∙ (turned x y z ∙ sym (i ∙ ap (λ k. k || z) h))))
  where
    turned : (x y z : Bool) → x || y || z ≡ (y || x) || z
    turned true true z = refl
    turned true false z = refl
    turned false true z = refl
    turned false false z = refl

pub owed_from : (c : Settings) (T : Tables) (clock k : ℕ) (advertised by_port by_period by_zones both all : Option ℕ) →
    T.clock ≡ Some clock →
    not (length (overdue c T k) == 0) ≡ reaches by_port k → is_owed c advertised k ≡ reaches by_period k → has_activation c.activations clock k ≡ reaches by_zones k →
    reaches both k ≡ (reaches by_period k || reaches by_port k) → reaches all k ≡ (reaches both k || reaches by_zones k) → is_tick_owed c T advertised k ≡ reaches all k
unfolding is_tick_owed
owed_from c T clock k advertised by_port by_period by_zones both all at e f g h i =
    any_owed (not (length (overdue c T k) == 0)) (is_owed c advertised k) (has_activation c.activations (now_of T) k) (reaches by_port k) (reaches by_period k) (reaches by_zones k) (reaches both k) (reaches all k)
    e f (ap (λ (o : Option ℕ). has_activation c.activations (unwrap_or o 0) k) at ∙ g) h i
