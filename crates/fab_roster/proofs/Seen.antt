-- What a login sees, by a walk over the logins, and what the registry knows of it.
use Rattle.std.proofs.Common.{◌≡◌, ℕ, ◌+◌, ◌<◌, ◌≤◌, ◌==◌, ◌||◌, Bool, true, false, List, [], ◌∷◌, ◌++◌, map, filter, Option, Some, None, option_map, is_some, IsSome, refl, sym, ap, subst, ◌∙◌, arith}
use Rattle.std.proofs.lemmas.Bool.Decides.{nat_tests}
use Rattle.std.proofs.lemmas.List.Elements.{All-append, All-cons, All-filter, All-head, All-map, All-nil, All-tail, All-weaker}
use Rattle.std.specs.List.{All}
use Rattle.std.specs.Option.{option_map_or}
use Rattle.fab_base.proofs.KeyedLemmas.{is_some-item_at-filter}
use Rattle.fab_config.specs.Settings.{Settings}
use Rattle.ct_messages.specs.Server.{first_values}
use Rattle.login_table.specs.Logins.{address_of, login_at}
use Rattle.login_table.specs.declared.login.Login.{Login}
use Rattle.name_server.specs.Registry as registry
use Rattle.name_server.specs.Registry.{AreEntered, Entry, entry_at, known_port, seen_at}
use Rattle.name_server.specs.declared.seen.SeenPort.{SeenPort}
use Rattle.zone_rules.specs.Joined as zones
use Rattle.zone_rules.specs.Rules.{ZoneRules}
use Rattle.fab_policy.specs.Queries.{fport, known, known_to}
use Rattle.fab_policy.specs.Rules.{joined}
use Rattle.fab_policy.specs.State.{LivePort, Tables, now_of, port_at}
use Rattle.fab_roster.specs.Agreement.{Agree}
use Rattle.fab_roster.specs.Reaching.{may_see, seen_port, zones_of}
use Rattle.fab_roster.specs.Roll.{Roll, live_of, roll_of}
use Rattle.fab_roster.specs.declared.roster.Roster.TheInside.{Inside}
use Rattle.fab_roster.proofs.Found.{All-item_at, same}
use Rattle.fab_roster.proofs.Lookups.{find_map, live_there}
use Rattle.fab_roster.proofs.Walks.{IsNext, Walked, one_picked, none_picked}

-- what a login sees of others at a moment
abbrev pub seen_of : Settings → ZoneRules → ℕ → Login → List Login → List SeenPort
seen_of c z at asker ls = map (seen_port c) (filter (may_see z at asker) ls)

-- all that were seen have addresses below a bound
abbrev pub AreBelow : ℕ → List SeenPort → Type 0
AreBelow bound seen = All (λ (s : SeenPort). s.address < bound) seen

-- ---- the walk

module _ (c : Settings) (z : ZoneRules) (at : ℕ) (asker : Login) (from a v : ℕ) (ls : List Login) (out new : List SeenPort) (l : Login) (b : Bool) (n : IsNext address_of from ls a) (found : Some l ≡ login_at a ls) (test : b ≡ may_see z at asker l) where
  is_item : l ≡ n.item
  is_item = cc (n.found)

  pub one_seen : b ≡ true → v ≡ a → new ≡ out ++ seen_port c l ∷ [] → Walked address_of (seen_of c z at asker) from ls out → Walked address_of (seen_of c z at asker) (v + 1) ls new
  one_seen passes is grown so_far =
      one_picked address_of (seen_port c) (may_see z at asker) from a v ls out new n (seen_port c l) (ap (seen_port c) is_item) (sym (ap (may_see z at asker) is_item) ∙ (sym test ∙ passes)) is grown so_far

  pub none_seen : b ≡ false → v ≡ a → new ≡ out → Walked address_of (seen_of c z at asker) from ls out → Walked address_of (seen_of c z at asker) (v + 1) ls new
  none_seen fails is unchanged so_far =
      none_picked address_of (seen_port c) (may_see z at asker) from a v ls out new n (sym (ap (may_see z at asker) is_item) ∙ (sym test ∙ fails)) is unchanged so_far

-- the next login is the one that is found at its address
pub found_address : (from a : ℕ) (ls : List Login) (l : Login) → IsNext address_of from ls a → Some l ≡ login_at a ls → l.address ≡ a
found_address from a ls l n found = let is : l ≡ n.item = cc (n.found, found) in ap address_of is ∙ n.at

module _ (from v : ℕ) (le : from ≤ v) (out new : List SeenPort) where
  pub below_same : new ≡ out → AreBelow from out → AreBelow (v + 1) new
  below_same is below = subst (AreBelow (v + 1)) (sym is) (All-weaker (λ (s : SeenPort). s.address < from) (λ (s : SeenPort). s.address < v + 1) (λ s lt. omega arith) out below)

  pub below_more : (s : SeenPort) → s.address ≡ v → new ≡ out ++ s ∷ [] → AreBelow from out → AreBelow (v + 1) new
  below_more s here is below =
      let P : SeenPort → Type 0 = λ x. x.address < v + 1 in
      subst (AreBelow (v + 1)) (sym is)
      (All-append P out (s ∷ []) (All-weaker (λ (x : SeenPort). x.address < from) P (λ x lt. omega arith) out below) (All-cons P s [] (omega arith) (All-nil P)))

-- ---- what the registry knows

module _ (c : Settings) (t : Inside) where
  pub one_known : (l : Login) → IsSome (entry_at l.address t.registry.entries) → known_port t.registry.entries (seen_port c l) ≡ Some (known c (live_of t l))
  one_known l some = go (entry_at l.address t.registry.entries) some
    where
      go : (o : Option Entry) → IsSome o → option_map (registry.known_of (seen_port c l)) o ≡ Some (record { address = l.address; name = l.name; fabric_port = fport c l.enode.port; values = option_map_or (λ x. x.values) o (first_values l.node) })
      go None i = cc
      go (Some x) i = refl

  -- what it knows of the logins that pass is what is known of their N_Ports
  seen_are_known : (q : Login → Bool) (p : LivePort → Bool) → ((l : Login) → p (live_of t l) ≡ q l) → (ls : List Login) → All (λ l. IsSome (entry_at l.address t.registry.entries)) ls →
      registry.known t.registry.entries (map (seen_port c) (filter q ls)) ≡ map (known c) (filter p (map (live_of t) ls))
  seen_are_known q p as_login [] entered = refl
  seen_are_known q p as_login (l ∷ ls) entered =
      grind (
        arith,
        nat_tests,
        as_login l,
        one_known l (All-head (λ x. IsSome (entry_at x.address t.registry.entries)) l ls entered),
        seen_are_known q p as_login ls (All-tail (λ x. IsSome (entry_at x.address t.registry.entries)) l ls entered),
      )

module _ {t : Inside} (agree : Agree t) (c : Settings) (z : ZoneRules) (at a : ℕ) (l : Login) (found : login_at a t.logins.logins ≡ Some l) where
  pub all_entered : All (λ (x : Login). IsSome (entry_at x.address t.registry.entries)) t.logins.logins
  all_entered = All-item_at address_of (λ x. IsSome (entry_at x.address t.registry.entries)) 0 t.logins.logins agree.logins.sound.ascending (λ x i. ap is_some (agree.entries.known x.address x i).1)

  pub seen_entered : AreEntered t.registry.entries (seen_of c z at l t.logins.logins)
  seen_entered =
      All-map (λ (s : SeenPort). IsSome (entry_at s.address t.registry.entries)) (seen_port c) (filter (may_see z at l) t.logins.logins)
      (All-filter (may_see z at l) (λ (x : Login). IsSome (entry_at x.address t.registry.entries)) t.logins.logins all_entered)

  -- the asker sees itself
  pub seen_itself : IsSome (seen_at a (seen_of c z at l t.logins.logins))
  seen_itself =
      ap is_some (find_map (seen_port c) (λ (s : SeenPort). s.address == a) (λ (x : Login). x.address == a) (filter (may_see z at l) t.logins.logins) (λ x. refl))
      ∙ (is_some-map (login_at a (filter (may_see z at l) t.logins.logins))
      ∙ (is_some-item_at-filter address_of (may_see z at l) 0 a t.logins.logins agree.logins.sound.ascending
      ∙ (ap (λ o. option_map_or (may_see z at l) o false) found
      ∙ ap (λ b. b || zones.joined z.zones z.sets z.activations at l.name l.name) (same l.address))))
    where
      is_some-map : (o : Option Login) → is_some (option_map (seen_port c) o) ≡ is_some o
      is_some-map None = refl
      is_some-map (Some x) = refl

  pub answer_law : {R : Roll} → z ≡ zones_of c → roll_of t ≡ R → at ≡ now_of R.tables → (b : LivePort) → port_at a R.tables.ports ≡ Some b →
      registry.known t.registry.entries (seen_of c z at l t.logins.logins) ≡ known_to c R.tables b
  answer_law is_zones view = subst (λ (x : Roll). at ≡ now_of x.tables → (b : LivePort) → port_at a x.tables.ports ≡ Some b → registry.known t.registry.entries (seen_of c z at l t.logins.logins) ≡ known_to c x.tables b) view (λ now b there.
      let T : Tables = (roll_of t).tables in
      let is : live_of t l ≡ b = cc (live_there t a l found) in
      seen_are_known c t (may_see z at l) (λ p. p.address == l.address || joined c T p.name l.name)
      (λ x. sym (ap (λ y. may_see y at l x) is_zones ∙ ap (λ m. may_see (zones_of c) m l x) now)) t.logins.logins all_entered
      ∙ ap (λ p. known_to c T p) is)
