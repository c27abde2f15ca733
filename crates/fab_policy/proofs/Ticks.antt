-- The tables after a tick that ends the overdue.
use Rattle.std.proofs.Common.{◌≡◌, ℕ, ◌+◌, ◌*◌, ◌^◌, ◌≤◌, ◌==◌, Bool, true, false, not, cond, List, [], ◌∷◌, map, filter, filter_map, Option, Some, None, option_map, option_and_then, refl, sym, ap, subst, ◌∙◌, arith, if◌then◌else◌}
use Rattle.std.proofs.lemmas.Bool.{eqb-true}
use Rattle.std.proofs.lemmas.List.Elements.{All-filter, All-map, All-weaker}
use Rattle.std.specs.Option.{option_map_or}
use Rattle.fab_base.specs.Fabric.{Past}
use Rattle.fab_base.specs.Keyed as keyed
use Rattle.fab_base.proofs.KeyedLemmas.{AscendFrom-filter, AscendFrom-keys, AscendFrom-weaker}
use Rattle.ct_messages.specs.Server.{Values}
use Rattle.zone_rules.specs.Joined.{contains}
use Rattle.fab_policy.specs.Changes.{TickSteps, EndsOfTicks, all_ended}
use Rattle.fab_policy.specs.Logins.{pool}
use Rattle.fab_policy.specs.Ranged.{AscendFrom, IsAddress}
use Rattle.fab_policy.specs.State.{LivePort, port_at, overdue, is_overdue, addresses}
use Rattle.fab_policy.specs.Steps.{AreAscending, touched, features_after, values_after, port_after, past_after}
use Rattle.fab_policy.specs.declared.event.Event.TheVariants.{Tick}
use Rattle.fab_policy.proofs.Steps.{same_tables}
use Rattle.fab_policy.proofs.Found.{IsBelow, below, listed_at, found_address, found_by_address}
use Rattle.fab_policy.proofs.SoundMacs.{pool_fits}

-- ---- an N_Port that stays

features_kept : (t : ℕ) (fs : List ℕ) → features_after None t fs ≡ fs
features_kept t [] = refl
features_kept t (f ∷ fs) = ap (λ gs. f ∷ gs) (features_kept (t + 1) fs)

pub values_kept : (first : ℕ) (v : Values) → values_after first None v ≡ v
values_kept first v = ap (λ fs. record v { features = fs }) (features_kept 0 v.features)

-- a tick changes nothing of an N_Port that stays
touched_tick : (at m : ℕ) (ends : List ℕ) (p : LivePort) → touched at p.address (Tick m ends) p ≡ p
touched_tick at m ends p = ap (λ v. record p { values = v }) (values_kept p.node p.values)

-- ---- members by address

-- those that pass ascend too
filter_ascends : (q : LivePort → Bool) (from to : ℕ) (ports : List LivePort) → AreAscending from to ports → AreAscending from to (filter q ports)
filter_ascends q from to ports h = (AscendFrom-filter (λ (p : LivePort). p.address) q from ports h.0, All-filter q (IsBelow to) ports h.1)

-- ---- a look-up among those that stay

abbrev kept_if : Bool → LivePort → Option LivePort
kept_if b p = if b then None else Some p

staying_at : (q : LivePort → Bool) (from a : ℕ) (ports : List LivePort) → keyed.AscendFrom (λ p. p.address) from ports →
    port_at a (filter (λ p. not (q p)) ports) ≡ option_and_then (λ p. kept_if (q p) p) (port_at a ports)
staying_at q from a [] h = refl
staying_at q from a (p ∷ ports) h = by_test (q p) refl (p.address == a) refl (staying_at q (p.address + 1) a ports h.1)
  where
    by_test : (t : Bool) → q p ≡ t → (x : Bool) → p.address == a ≡ x → port_at a (filter (λ y. not (q y)) ports) ≡ option_and_then (λ y. kept_if (q y) y) (port_at a ports) →
        port_at a (cond (not (q p)) (p ∷ filter (λ y. not (q y)) ports) (filter (λ y. not (q y)) ports)) ≡ option_and_then (λ y. kept_if (q y) y) (cond (p.address == a) (Some p) (port_at a ports))
    by_test t et true e ih =
        let none : port_at a ports ≡ None = below (p.address + 1) a ports h.1 (omega (arith, eqb-true p.address a e)) in
        grind (arith, et, e, ih, none)
    by_test t et false e ih = grind (arith, et, e, ih)

pub map_same : {X Y : Type 0} (f g : X → Y) → ((x : X) → f x ≡ g x) → (xs : List X) → map f xs ≡ map g xs
map_same f g h [] = refl
map_same f g h (x ∷ xs) = grind (arith, h x, map_same f g h xs)

-- the N_Port of an address after a tick that lists those that pass
tick_port : (q : LivePort → Bool) (m a : ℕ) (ends : List ℕ) (o : Option LivePort) → ((p : LivePort) → o ≡ Some p → p.address ≡ a) → contains a ends ≡ option_map_or q o false →
    option_and_then (λ p. kept_if (q p) p) o ≡ port_after m a (Tick m ends) o
tick_port q m a ends None is l = refl
tick_port q m a ends (Some p) is l = go a (is p refl) (q p) l
  where
    go : (b : ℕ) → p.address ≡ b → (t : Bool) → contains b ends ≡ t → kept_if t p ≡ (if contains b ends then None else Some (touched m b (Tick m ends) p))
    go b e true i = ap (λ x. if x then None else Some (touched m b (Tick m ends) p)) (sym i)
    go b e false i = subst (λ y. Some p ≡ Some (touched m y (Tick m ends) p)) e (ap (λ y. Some y) (sym (touched_tick m m ends p))) ∙ ap (λ x. if x then None else Some (touched m b (Tick m ends) p)) (sym i)

-- the past of an address after such a tick
tick_past : (q : LivePort → Bool) (m : ℕ) (ends : List ℕ) (p : Past) (o : Option LivePort) → contains p.address ends ≡ option_map_or q o false →
    past_after m p.address (Tick m ends) (option_map (λ x. x.enode) o) p ≡ all_ended ends m p
tick_past q m ends p None l = ap (λ b. if b then record { address = p.address; name = p.name; ended = Some m } else p) (sym l)
tick_past q m ends p (Some x) l = refl

pub tick_steps : TickSteps
tick_steps c T m asc =
    let from : ℕ = c.domain * 65536 + 256 in
    let q : LivePort → Bool = is_overdue c m in
    let ends : List ℕ = addresses (overdue c T m) in
    sym (same_tables {t = Some m} {t' = Some m} refl
    (ports from q ends refl refl refl asc)
    (map_same (all_ended ends m) (λ p. past_after m p.address (Tick m ends) (option_map (λ x. x.enode) (port_at p.address T.ports)) p)
    (λ p. sym (tick_past q m ends p (port_at p.address T.ports) (listed_at q from (from + c.pool) p.address T.ports asc))) T.past))
  where
    ports : (from : ℕ) (q : LivePort → Bool) (ends : List ℕ) → from ≡ c.domain * 65536 + 256 → q ≡ is_overdue c m → ends ≡ addresses (filter q T.ports) → AreAscending from (from + c.pool) T.ports →
        filter (λ p. not (q p)) T.ports ≡ filter_map (λ a. port_after m a (Tick m ends) (port_at a T.ports)) (pool c)
    ports from q ends from_is q_is ends_are h = found_by_address c (filter (λ p. not (q p)) T.ports) (λ a. port_after m a (Tick m ends) (port_at a T.ports))
        (subst (λ x. AreAscending x (x + c.pool) (filter (λ p. not (q p)) T.ports)) from_is (filter_ascends (λ p. not (q p)) from (from + c.pool) T.ports h))
        (λ a l r. staying_at q from a T.ports h.0
        ∙ tick_port q m a ends (port_at a T.ports) (λ p e. found_address a T.ports p e)
        (ap (λ xs. contains a xs) ends_are ∙ listed_at q from (from + c.pool) a T.ports h))

-- ---- the addresses that a tick ends

ends_from : (q : LivePort → Bool) (low from to : ℕ) (ports : List LivePort) → low ≤ from → to ≤ 2 ^ 24 → AreAscending from to ports → AscendFrom low (addresses (filter q ports))
ends_from q low from to ports le fits h =
    let kept : AreAscending from to (filter q ports) = filter_ascends q from to ports h in (
      AscendFrom-weaker (λ (a : ℕ). a) low from (addresses (filter q ports)) le (AscendFrom-keys (λ (p : LivePort). p.address) from (filter q ports) kept.0),
      All-map IsAddress (λ (p : LivePort). p.address) (filter q ports) (All-weaker (IsBelow to) (λ (p : LivePort). IsAddress p.address) (λ p l. omega (arith, l)) (filter q ports) kept.1),
    )

pub ends_of_ticks : EndsOfTicks
ends_of_ticks c T m range asc = ends_from (is_overdue c m) 0 (c.domain * 65536 + 256) (c.domain * 65536 + 256 + c.pool) T.ports (omega arith) (pool_fits c range) asc
