-- A grant: the logins that it ends are gone, its address is free after that, and the tables are the policy's.
use Rattle.std.proofs.Common.{◌≡◌, ℕ, ◌-◌, ◌==◌, ◌&&◌, ◌||◌, Bool, true, false, cond, if◌then◌else◌, List, [], ◌∷◌, map, filter, Option, Some, None, option_map, option_and_then, unwrap_or, is_some, IsSome, IsTrue, refl, sym, ap, ◌∙◌, subst, nat_lt, arith}
use Rattle.std.specs.List.{All}
use Rattle.std.specs.Option.{option_map_or}
use Rattle.std.specs.Prelude.{is_none}
use Rattle.std.proofs.lemmas.Bool.Decides.{nat_tests}
use Rattle.fab_base.specs.Fabric.{Past, past_at, may_have, same_enode, QUARANTINE}
use Rattle.fab_base.specs.Keyed.{AscendFrom}
use Rattle.fab_base.specs.declared.values.Enode.{Enode}
use Rattle.fab_config.specs.Settings.{Settings}
use Rattle.fab_base.proofs.KeyedLemmas.{AscendFrom-filter, AscendFrom-keys, AscendFrom-weaker, list_any-keys-filter}
use Rattle.fab_base.proofs.SamenessLemmas.{find-map, found_passes}
use Rattle.zone_rules.specs.Joined.{contains}
use Rattle.fab_policy.specs.Changes.{GrantSteps, all_ended, granted_to, heard_node, left_by}
use Rattle.fab_policy.specs.Free.{Request, is_free, is_open}
use Rattle.heard_frames.specs.Heard.{is_flogi}
use Rattle.fab_policy.specs.Logins.{NPort, n_port}
use Rattle.fab_policy.specs.State.{LivePort, Tables, addresses, now_of, port_at}
use Rattle.fab_policy.specs.Steps.{after, fresh}
use Rattle.fab_policy.specs.declared.verdict.Verdict.TheVariants.{Granted}
use Rattle.fab_roster.specs.Changes.{EndsAll, Grants, IsSoundRoll, KeepsBounds}
use Rattle.fab_roster.specs.Roll.{Roll}
use Rattle.fab_judge.specs.Judged.{ended_by}
use Rattle.fab_roster.specs.Roll.{Login, addresses_of}
use Rattle.fab_sending.proofs.Counting.{addresses_same}
use Rattle.fab_sending.specs.Sends.{request_from}
use Rattle.forward_core.specs.Arrived.{caught_of, entry_of}
use Rattle.forward_core.specs.Carrying.{Asks, CarriesOut, IsRollOf, is_ended, left_to}
use Rattle.forward_core.specs.declared.arrived.Arrived.{Arrived}
use Rattle.forward_core.proofs.CarryLemmas.{same_roll}
use Rattle.forward_core.proofs.TickLemmas.{in_pool, left_over, live_listed}

-- ---- tests

true_false : true ≡ false → ⊥
true_false e = cc

and_two : (a b d : Bool) → (a && b && d) ≡ true → (a && b) ≡ true
and_two true true d e = refl
and_two true false d e = e
and_two false b d e = e

and_last : (a b d : Bool) → (a && b && d) ≡ true → d ≡ true
and_last true true d e = e
and_last true false d e = cc
and_last false b d e = cc

and_turned : (b d : Bool) → (b && d) ≡ (d && b)
and_turned true true = refl
and_turned true false = refl
and_turned false true = refl
and_turned false false = refl

same_number : (a b : ℕ) → a == b ≡ true → a ≡ b
same_number a b e = grind (arith, nat_tests)

-- ---- what a request ends

-- the addresses of the logins that a request ends
pub ended_addresses : (r : Request) (T : Tables) (ended : List Login) → ended ≡ ended_by r T → addresses_of ended ≡ addresses (filter (is_ended r) T.ports)
ended_addresses r T ended e = ap addresses_of e ∙ addresses_same (filter (is_ended r) T.ports)

-- the two tests in either order
pub ends_turned : (x : Enode) (flogi : Bool) (ports : List LivePort) → filter (λ p. flogi && same_enode p.enode x) ports ≡ filter (λ p. same_enode p.enode x && flogi) ports
ends_turned x flogi [] = refl
ends_turned x flogi (p ∷ ports) =
    ap (λ b. cond b (p ∷ filter (λ q. flogi && same_enode q.enode x) ports) (filter (λ q. flogi && same_enode q.enode x) ports)) (and_turned flogi (same_enode p.enode x))
    ∙ ap (λ l. cond (same_enode p.enode x && flogi) (p ∷ l) l) (ends_turned x flogi ports)

module _ (r : Request) (ids : List ℕ) (old : Roll) (sound : IsSoundRoll old) (are : ids ≡ addresses (filter (is_ended r) old.tables.ports)) where
  -- the addresses that end are live, and ascend
  pub ends_live : All (λ a. IsSome (port_at a old.tables.ports)) ids
  ends_live = subst (λ l. All (λ a. IsSome (port_at a old.tables.ports)) l) (sym are) (live_listed (is_ended r) old.lowest old.tables.ports sound.ascending.0)

  pub ends_differ : AscendFrom (λ a. a) 0 ids
  ends_differ =
      subst (λ l. AscendFrom (λ (a : ℕ). a) 0 l) (sym are) (AscendFrom-weaker (λ (a : ℕ). a) 0 old.lowest (addresses (filter (is_ended r) old.tables.ports)) (omega arith)
      (AscendFrom-keys (λ (p : LivePort). p.address) old.lowest (filter (is_ended r) old.tables.ports) (AscendFrom-filter (λ (p : LivePort). p.address) (is_ended r) old.lowest old.tables.ports sound.ascending.0)))

  -- an address is one of them where its N_Port is ended
  is_among : (a : ℕ) → contains a ids ≡ option_map_or (is_ended r) (port_at a old.tables.ports) false
  is_among a = ap (λ l. contains a l) are ∙ list_any-keys-filter (λ (p : LivePort). p.address) (is_ended r) old.lowest a old.tables.ports sound.ascending.0

-- ---- the past of addresses

ended_keeps : (ids : List ℕ) (at : ℕ) (p : Past) → (all_ended ids at p).address ≡ p.address
ended_keeps ids at p = go (contains p.address ids)
  where
    go : (b : Bool) → (if b then record { address = p.address; name = p.name; ended = Some at } else p).address ≡ p.address
    go true = refl
    go false = refl

-- ---- what may be granted

-- a request of the same N_Port that ends nothing
abbrev pub again : Request → Request
again r = record { flogi = false; enode = r.enode; name = r.name }

-- an address with this N_Port and past is open to a request
abbrev open_by : Request → ℕ → Option ℕ → Option ℕ → Option LivePort → Bool
open_by r at name ended o = elim o [ Some p ↦ r.flogi && same_enode p.enode r.enode && p.name == r.name | None ↦ may_have r.name at name ended ]

abbrev open_at : Tables → Request → Option Past → Bool
open_at T r o = elim o [ None ↦ false | Some p ↦ is_open T r p ]

-- an address goes back to the name that had it last
own_name : (last name at end : ℕ) → last == name ≡ true → may_have name at (Some last) (Some end) ≡ true
own_name last name at end same = ap (λ b. b || nat_lt QUARANTINE (at - end)) same

-- ---- after the ends

module _ (r : Request) (ids : List ℕ) (old mid : Roll) (sound : IsSoundRoll old) (are : ids ≡ addresses (filter (is_ended r) old.tables.ports)) (ends : EndsAll ids old mid) where
  -- the N_Ports that are left
  pub remain : IsSoundRoll mid → mid.tables.ports ≡ left_to r old.tables
  remain sound_mid =
      left_over (is_ended r) old.lowest old.tables.ports mid.tables.ports sound.ascending.0 (subst (λ l. AscendFrom (λ (x : LivePort). x.address) l mid.tables.ports) ends.bounds.lowest sound_mid.ascending.0)
      (λ a. ends.ports a ∙ ap (λ l. if contains a l then None else port_at a old.tables.ports) are)

  -- the clock is the one before
  same_now : now_of mid.tables ≡ now_of old.tables
  same_now = ap (λ (o : Option ℕ). unwrap_or o 0) ends.clock

  -- an address that is live in the end wasn't ended
  port_left : (b : ℕ) → port_at b mid.tables.ports ≡ left_by r.flogi r.enode (port_at b old.tables.ports)
  port_left b = ends.ports b ∙ (ap (λ d. if d then None else port_at b old.tables.ports) (is_among r ids old sound are b) ∙ go (port_at b old.tables.ports))
    where
      go : (o : Option LivePort) → (if option_map_or (is_ended r) o false then None else o) ≡ left_by r.flogi r.enode o
      go None = refl
      go (Some q) = ap (λ d. if d then None else Some q) (and_turned r.flogi (same_enode q.enode r.enode))

  past_left : (b : ℕ) → past_at b mid.tables.past ≡ option_map (all_ended ids (now_of old.tables)) (past_at b old.tables.past)
  past_left b = ap (λ (l : List Past). past_at b l) ends.past ∙ find-map (λ (p : Past). p.address == b) (all_ended ids (now_of old.tables)) (λ p. ap (λ n. n == b) (ended_keeps ids (now_of old.tables) p)) old.tables.past

  -- what is open to the request is open, once its logins ended, to one that ends nothing
  still_open : (a : ℕ) (p : Past) → past_at a old.tables.past ≡ Some p → is_open old.tables r p ≡ true → is_open mid.tables (again r) (all_ended ids (now_of old.tables) p) ≡ true
  still_open a p found was = go (contains p.address ids) refl (port_at p.address old.tables.ports) refl was
    where
      -- the N_Port of the address after the ends
      left_at : (b : Bool) (o : Option LivePort) → contains p.address ids ≡ b → port_at p.address old.tables.ports ≡ o → port_at p.address mid.tables.ports ≡ (if b then None else o)
      left_at b o among at = ends.ports p.address ∙ (ap (λ d. if d then None else port_at p.address old.tables.ports) among ∙ ap (λ l. if b then None else l) at)

      ended_there : (b : Bool) (o : Option LivePort) → contains p.address ids ≡ b → port_at p.address old.tables.ports ≡ o → b ≡ option_map_or (is_ended r) o false
      ended_there b o among at = sym among ∙ (is_among r ids old sound are p.address ∙ ap (λ l. option_map_or (is_ended r) l false) at)

      -- the pool keeps the name of the N_Port that holds the address
      named : (q : LivePort) → port_at p.address old.tables.ports ≡ Some q → p.name ≡ Some q.name
      named q at =
          let held : past_at a old.tables.past ≡ Some (record { address = p.address; name = Some q.name; ended = None }) =
          subst (λ n. past_at n old.tables.past ≡ Some (record { address = p.address; name = Some q.name; ended = None })) (same_number p.address a (found_passes (λ (x : Past). x.address == a) p old.tables.past found)) (sound.held p.address q at) in
          ap (λ (o : Option Past). option_and_then (λ (x : Past). x.name) o) (sym found ∙ held)

      go : (b : Bool) → contains p.address ids ≡ b → (o : Option LivePort) → port_at p.address old.tables.ports ≡ o → open_by r (now_of old.tables) p.name p.ended o ≡ true →
          is_open mid.tables (again r) (if b then record { address = p.address; name = p.name; ended = Some (now_of old.tables) } else p) ≡ true
      go true among None at was = absurd (true_false (ended_there true None among at))
      go true among (Some q) at was =
          ap (open_by (again r) (now_of mid.tables) p.name (Some (now_of old.tables))) (left_at true (Some q) among at)
          ∙ (ap (λ n. may_have r.name (now_of mid.tables) n (Some (now_of old.tables))) (named q at)
          ∙ own_name q.name r.name (now_of mid.tables) (now_of old.tables) (and_last r.flogi (same_enode q.enode r.enode) (q.name == r.name) was))
      go false among None at was =
          ap (open_by (again r) (now_of mid.tables) p.name p.ended) (left_at false None among at) ∙ (ap (λ n. may_have r.name n p.name p.ended) same_now ∙ was)
      go false among (Some q) at was =
          absurd (true_false (sym (and_two r.flogi (same_enode q.enode r.enode) (q.name == r.name) was) ∙ sym (ended_there false (Some q) among at)))

  pub still_free : (a : ℕ) → IsTrue (is_free old.tables r a) → IsTrue (is_free mid.tables (again r) a)
  still_free a free = ap (open_at mid.tables (again r)) (past_left a) ∙ go (past_at a old.tables.past) refl free
    where
      go : (o : Option Past) → past_at a old.tables.past ≡ o → open_at old.tables r o ≡ true → open_at mid.tables (again r) (option_map (all_ended ids (now_of old.tables)) o) ≡ true
      go None found was = was
      go (Some p) found was = still_open a p found was

-- ---- the tables after a grant

-- one change after another
both : (f g h : Past → Past) → ((p : Past) → g p ≡ h p) → (past : List Past) → map f (map g past) ≡ map (λ p. f (h p)) past
both f g h same [] = refl
both f g h same (p ∷ past) = ap (λ q. f q ∷ map f (map g past)) (same p) ∙ ap (λ l. f (h p) ∷ l) (both f g h same past)

-- an N_Port that is fresh at its own address
at_own : (f : ℕ → LivePort) (a b : ℕ) (o : Option LivePort) → (if b == a then Some (f a) else o) ≡ (if b == a then Some (f b) else o)
at_own f a b o = go (b == a) refl
  where
    go : (d : Bool) → b == a ≡ d → (if d then Some (f a) else o) ≡ (if d then Some (f b) else o)
    go true same = ap (λ n. Some (f n)) (sym (same_number b a same))
    go false other = refl

-- what the policy says of the N_Ports and of the past of the addresses after a grant
abbrev PortsAre : ℕ → ℕ → Bool → NPort → Tables → Tables → Type 0
PortsAre at a flogi n T U = (b : ℕ) → port_at b U.ports ≡ (if b == a then Some (fresh at b n) else option_map (heard_node n.enode at) (left_by flogi n.enode (port_at b T.ports)))

abbrev past_by : ℕ → ℕ → Bool → NPort → Tables → Past → Past
past_by at a flogi n T p = granted_to a n.name (let o = port_at p.address T.ports in if is_none (left_by flogi n.enode o) && is_some o then record { address = p.address; name = p.name; ended = Some at } else p)

abbrev PastIs : ℕ → ℕ → Bool → NPort → Tables → Tables → Type 0
PastIs at a flogi n T U = U.past ≡ map (past_by at a flogi n T) T.past

-- the N_Port of a login that is this request
asked_by : (frame : Arrived) (a : ℕ) (r : Request) (node : ℕ) → Asks frame r node → record { name = r.name; node = node; enode = r.enode } ≡ n_port (entry_of frame (Granted a))
asked_by frame a r node asks = ap (λ (q : Request). n_port_of q node) asks.request ∙ ap (n_port_of (request_from frame.port (caught_of frame))) asks.node_is
  where
    n_port_of : Request → ℕ → NPort
    n_port_of q node = record { name = q.name; node = node; enode = q.enode }

module _ (r : Request) (ids : List ℕ) (old mid new : Roll) (sound : IsSoundRoll old) (are : ids ≡ addresses (filter (is_ended r) old.tables.ports)) (ends : EndsAll ids old mid) (a node : ℕ)
    (grants : Grants a (record { name = r.name; node = node; enode = r.enode }) mid new) where
  abbrev granted_port : NPort
  granted_port = record { name = r.name; node = node; enode = r.enode }

  ports_are : PortsAre (now_of old.tables) a r.flogi granted_port old.tables new.tables
  ports_are b =
      grants.ports b ∙ (ap (λ at. if b == a then Some (fresh at a granted_port) else option_map (heard_node r.enode at) (port_at b mid.tables.ports)) (same_now r ids old mid sound are ends)
      ∙ (ap (λ o. if b == a then Some (fresh (now_of old.tables) a granted_port) else option_map (heard_node r.enode (now_of old.tables)) o) (port_left r ids old mid sound are ends b)
      ∙ at_own (λ n. fresh (now_of old.tables) n granted_port) a b (option_map (heard_node r.enode (now_of old.tables)) (left_by r.flogi r.enode (port_at b old.tables.ports)))))

  past_is : PastIs (now_of old.tables) a r.flogi granted_port old.tables new.tables
  past_is =
      grants.past ∙ (ap (λ (l : List Past). map (granted_to a r.name) l) ends.past
      ∙ both (granted_to a r.name) (all_ended ids (now_of old.tables)) (λ p. let o = port_at p.address old.tables.ports in
      if is_none (left_by r.flogi r.enode o) && is_some o then record { address = p.address; name = p.name; ended = Some (now_of old.tables) } else p) same old.tables.past)
    where
      one : (q : LivePort) → is_ended r q ≡ (is_none (left_by r.flogi r.enode (Some q)) && is_some (Some q))
      one q = and_turned r.flogi (same_enode q.enode r.enode) ∙ go (same_enode q.enode r.enode && r.flogi)
        where
          go : (b : Bool) → b ≡ (is_none (if b then None else Some q) && true)
          go true = refl
          go false = refl

      is_gone : (o : Option LivePort) → option_map_or (is_ended r) o false ≡ (is_none (left_by r.flogi r.enode o) && is_some o)
      is_gone None = refl
      is_gone (Some q) = one q

      same : (p : Past) → all_ended ids (now_of old.tables) p
          ≡ (let o = port_at p.address old.tables.ports in if is_none (left_by r.flogi r.enode o) && is_some o then record { address = p.address; name = p.name; ended = Some (now_of old.tables) } else p)
      same p =
          ap (λ b. if b then record { address = p.address; name = p.name; ended = Some (now_of old.tables) } else p) (is_among r ids old sound are p.address ∙ is_gone (port_at p.address old.tables.ports))

  -- the roll after the grant has the tables after its frame, in which the address is live
  pub granted : GrantSteps → IsSoundRoll new → IsTrue (is_free old.tables r a) → (frame : Arrived) → Asks frame r node → CarriesOut frame (Granted a) old new
  granted steps sound_new free frame asks = record {
    bounds = bounds;
    sound = sound_new;
    clock = grants.clock ∙ ends.clock;
    tables = tables;
    follows = λ c of. (subst (λ q. IsTrue (is_free old.tables q a)) asks.request free, subst (λ (U : Tables). IsSome (port_at a U.ports)) (tables c of) (is_live _ _ _ _ (grants.ports a) (same a)));
  }
    where
      bounds : KeepsBounds old new
      bounds = record {
        lowest = grants.bounds.lowest ∙ ends.bounds.lowest;
        count = grants.bounds.count ∙ ends.bounds.count;
        limit = grants.bounds.limit ∙ ends.bounds.limit;
        period = grants.bounds.period ∙ ends.bounds.period;
      }

      tables : (c : Settings) → IsRollOf c old → new.tables ≡ after c old.tables (entry_of frame (Granted a))
      tables c of =
          let is = same_roll c old new bounds of in
          steps c frame.port frame.index a (caught_of frame) old.tables new.tables (grants.clock ∙ ends.clock) (in_pool c new is.lowest is.count sound_new)
          (subst (λ n. PortsAre (now_of old.tables) a (is_flogi (caught_of frame)) n old.tables new.tables) (asked_by frame a r node asks)
          (subst (λ f. PortsAre (now_of old.tables) a f granted_port old.tables new.tables) (ap (λ (q : Request). q.flogi) asks.request) ports_are))
          (subst (λ n. PastIs (now_of old.tables) a (is_flogi (caught_of frame)) n old.tables new.tables) (asked_by frame a r node asks)
          (subst (λ f. PastIs (now_of old.tables) a f granted_port old.tables new.tables) (ap (λ (q : Request). q.flogi) asks.request) past_is))

      same : (n : ℕ) → n == n ≡ true
      same n = grind (arith, nat_tests)

      is_live : (o q : Option LivePort) (x : LivePort) (b : Bool) → o ≡ (if b then Some x else q) → b ≡ true → IsSome o
      is_live o q x b e t = ap is_some (e ∙ ap (λ k. if k then Some x else q) t)
