-- What the tables that agree say of every roll: ascending N_Ports of the pool, no more than the limit, a clock in range, the
-- features of all types, and what the pool keeps of live addresses.
use Rattle.std.proofs.Common.{◌≡◌, ℕ, zero, suc, ◌+◌, ◌<◌, ◌≤◌, ◌^◌, ◌==◌, ◌||◌, Bool, true, false, cond, List, [], ◌∷◌, map, length, Option, Some, None, IfSome, option_map, is_some, unwrap_or, refl, sym, ap, ◌∙◌, subst, arith}
use Rattle.std.proofs.lemmas.Bool.Decides.{nat_tests}
use Rattle.std.specs.List.{All, list_any}
use Rattle.std.specs.Option.{option_map_or}
use Rattle.std.proofs.lemmas.List.{length-map}
use Rattle.std.proofs.lemmas.List.Elements.{All-head, All-map, All-tail}
use Rattle.fab_base.proofs.KeyedLemmas.{list_any-keys}
use Rattle.fab_base.specs.Fabric.{Past, past_at}
use Rattle.fab_base.specs.Keyed.{AscendFrom}
use Rattle.fc_addresses.specs.Pool as pool
use Rattle.login_table.specs.Logins.{NamesDiffer, login_at, named, address_of}
use Rattle.login_table.specs.declared.login.Login.{Login}
use Rattle.ct_messages.specs.Server.{NO_FEATURES, first_values}
use Rattle.name_server.specs.Registry.{Entry, IsKept, entry_at}
use Rattle.fab_policy.specs.State.{LivePort}
use Rattle.fab_policy.specs.Written.{HaveDifferentNames, IsNew}
use Rattle.fab_roster.specs.Agreement.{Agree, IsHeldBy}
use Rattle.fab_roster.specs.Changes.{IsSize, IsSoundRoll}
use Rattle.fab_roster.specs.Roll.{live_of, ports_of, roll_of, values_at}
use Rattle.fab_roster.specs.declared.roster.Roster.TheInside.{Inside}
use Rattle.fab_roster.proofs.Found.{All-item_at, equal, same, true_false}
use Rattle.fab_roster.proofs.Lookups.{port_of_login}
use Rattle.fab_roster.proofs.Ports.{ports_ascend}
use Rattle.fab_roster.proofs.Served.{none_some, some_same}

-- ---- the addresses of a pool

in_unused : (a first count : ℕ) → list_any (λ n. n == a) (pool.addresses (pool.unused first count)) ≡ true → (first ≤ a) × (a < first + count)
in_unused a first zero h = absurd (true_false (sym h))
in_unused a first (suc count) h = go (first == a) refl h (in_unused a (first + 1) count)
  where
    go : (b : Bool) → first == a ≡ b → b || list_any (λ n. n == a) (pool.addresses (pool.unused (first + 1) count)) ≡ true →
        (list_any (λ n. n == a) (pool.addresses (pool.unused (first + 1) count)) ≡ true → (first + 1 ≤ a) × (a < first + 1 + count)) → (first ≤ a) × (a < first + suc count)
    go true t i ih = let is : first ≡ a = equal first a t in (omega arith, omega arith)
    go false t i ih = let f = ih i in (omega (arith, f.0), omega (arith, f.1))

-- an address of the pool
pub in_pool : (lowest count a : ℕ) (A : List Past) (p : Past) → map (λ x. x.address) A ≡ map (λ x. x.address) (pool.unused lowest count) → past_at a A ≡ Some p →
    (lowest ≤ a) × (a < lowest + count)
in_pool lowest count a A p places is =
    in_unused a lowest count (ap (λ l. list_any (λ n. n == a) l) (sym places) ∙ (list_any-keys (λ (x : Past). x.address) a A ∙ ap (λ o. is_some o) is))

-- ---- addresses and names

AscendFrom-raise : (k : ℕ) (ls : List Login) → AscendFrom address_of 0 ls → All (λ l. k ≤ l.address) ls → AscendFrom address_of k ls
AscendFrom-raise k [] h above = tt
AscendFrom-raise k (l ∷ ls) h above = (All-head (λ m. k ≤ m.address) l ls above, h.1)

named_none : (n : ℕ) (l : Login) (ls : List Login) → named n (l ∷ ls) ≡ None → (l.name == n ≡ false) × (named n ls ≡ None)
named_none n l ls e = (grind (arith, nat_tests, e), grind (arith, nat_tests, e))

new_live : (t : Inside) (l : Login) (ls : List Login) → named l.name ls ≡ None → IsNew (live_of t l) (map (live_of t) ls)
new_live t l [] e = tt
new_live t l (x ∷ ls) e =
    let f = named_none l.name x ls e in
    (λ is. true_false (sym (ap (λ n. x.name == n) is ∙ same x.name) ∙ f.0), new_live t l ls f.1)

names_live : (t : Inside) (ls : List Login) → NamesDiffer ls → HaveDifferentNames (map (live_of t) ls)
names_live t [] h = tt
names_live t (l ∷ ls) h = (new_live t l ls h.0, names_live t ls h.1)

-- ---- features

no_features : length NO_FEATURES ≡ 256
unfolding NO_FEATURES
no_features = refl

-- what is kept of all is kept of one that is found
entry_kept : (a : ℕ) (R : List Entry) (e : Entry) → All (λ d. IsKept d.values) R → entry_at a R ≡ Some e → IsKept e.values
entry_kept a [] e kept found = absurd (none_some e found)
entry_kept a (d ∷ R) e kept found = go (d.address == a) (λ is. entry_kept a R e (All-tail (λ c. IsKept c.values) d R kept) is) found
  where
    go : (b : Bool) → (entry_at a R ≡ Some e → IsKept e.values) → cond b (Some d) (entry_at a R) ≡ Some e → IsKept e.values
    go true later is = subst (λ (c : Entry). IsKept c.values) (some_same d e is) (All-head (λ c. IsKept c.values) d R kept)
    go false later is = later is

-- the values of a login have the features of all types
features_at : (a node : ℕ) (R : List Entry) → All (λ e. IsKept e.values) R → length (values_at a node R).features ≡ 256
features_at a node R kept = go (entry_at a R) refl
  where
    go : (o : Option Entry) → entry_at a R ≡ o → length (option_map_or (λ e. e.values) o (first_values node)).features ≡ 256
    go None absent = no_features
    go (Some e) found = (entry_kept a R e kept found).features

in_range : (clock : Option ℕ) → unwrap_or clock 0 < 2 ^ 63 → IfSome clock (λ t. t < 2 ^ 63)
in_range None h = tt
in_range (Some t) h = h

module _ {t : Inside} (agree : Agree t) where
  -- a login has an address of the pool
  login_within : (l : Login) → login_at l.address t.logins.logins ≡ Some l → (t.lowest ≤ l.address) × (l.address < t.lowest + t.count)
  login_within l e = in_pool t.lowest t.count l.address t.pool (pool.held l.address l.name) agree.pool.places (subst (λ h. IsHeldBy l.address t.pool h) e (agree.pool.held l.address))

  -- the pool keeps the name of a live N_Port
  holds : (a : ℕ) (o : Option Login) (p : LivePort) → login_at a t.logins.logins ≡ o → option_map (live_of t) o ≡ Some p → past_at a t.pool ≡ Some (pool.held a p.name)
  holds a None p is found = absurd (none_some p found)
  holds a (Some l) p is found = subst (λ h. IsHeldBy a t.pool h) is (agree.pool.held a) ∙ ap (λ (o : Option LivePort). Some (pool.held a (option_map_or (λ q. q.name) o 0))) found

  -- what holds of each login that is found holds of all N_Ports
  of_ports : (P : LivePort → Type 0) → ((l : Login) → login_at l.address t.logins.logins ≡ Some l → P (live_of t l)) → All P (ports_of t)
  of_ports P each = All-map P (live_of t) t.logins.logins (All-item_at address_of (λ l. P (live_of t l)) 0 t.logins.logins agree.logins.sound.ascending each)

  pub sound_roll : IsSoundRoll (roll_of t)
  sound_roll = record {
    ascending = (
      ports_ascend t t.lowest t.logins.logins (AscendFrom-raise t.lowest t.logins.logins agree.logins.sound.ascending (All-item_at address_of (λ l. t.lowest ≤ l.address) 0 t.logins.logins agree.logins.sound.ascending (λ l i. (login_within l i).0))),
      of_ports (λ p. p.address < t.lowest + t.count) (λ l i. (login_within l i).1),
    );
    names = names_live t t.logins.logins agree.logins.sound.names;
    sizes = of_ports (λ p. IfSome p.server IsSize) (λ l i. agree.logins.sizes l.address l i);
    few = omega (arith, length-map t.logins.logins (live_of t), agree.logins.sound.bound, agree.logins.limit);
    range = in_range t.clock agree.pool.range;
    features = of_ports (λ p. length p.values.features ≡ 256) (λ l i. features_at l.address l.node t.registry.entries agree.entries.sound.kept);
    held = λ a p found. holds a (login_at a t.logins.logins) p refl (sym (port_of_login t a) ∙ found);
  }
