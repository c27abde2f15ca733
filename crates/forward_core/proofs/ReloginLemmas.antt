-- The N_Ports of a seam are logged in again, one after another, and hold their addresses.
use Rattle.std.proofs.Common.{◌≡◌, ℕ, ◌+◌, ◌*◌, ◌<◌, ◌≤◌, ◌^◌, ◌==◌, ◌&&◌, ◌||◌, ◌⊎◌, inl, inr, Bool, true, false, if◌then◌else◌, List, [], ◌∷◌, ◌++◌, length, map, Option, Some, None, option_map, IfSome, IsSome, unwrap_or, refl, sym, ◌∙◌, ap, subst, arith}
use Rattle.std.specs.List.{list_any}
use Rattle.std.proofs.lemmas.List.{append-nil}
use Rattle.fab_base.specs.Fabric.{Past, may_have, past_at, same_enode}
use Rattle.fab_base.specs.Keyed.{AscendFrom}
use Rattle.fab_base.specs.declared.values.Enode.{Enode}
use Rattle.fab_base.proofs.KeyedLemmas.{AscendFrom-weaker, equal_by_items}
use Rattle.fab_base.proofs.SamenessLemmas.{find-map}
use Rattle.fc_addresses.specs.Pool.{held, never_had}
use Rattle.fab_config.specs.Settings.{Settings}
use Rattle.fab_policy.specs.Changes.{granted_to, heard_node}
use Rattle.fab_policy.specs.Free.{Request, is_free, is_open}
use Rattle.fab_policy.specs.Outputs.{State}
use Rattle.fab_policy.specs.State.{LivePort, Tables, now_of, port_at}
use Rattle.fab_policy.specs.Written.{HaveDifferentNames, IsNew}
use Rattle.fab_pieces.specs.Seam.{Seam}
use Rattle.fab_pieces.specs.Sound.{IsCutSize, IsSoundState}
use Rattle.fab_roster.proofs.Found.{item_at-key}
use Rattle.fab_roster.specs.Changes.{IsSize, IsSoundRoll, KeepsBounds}
use Rattle.fab_roster.specs.Restoring.{Restores}
use Rattle.fab_roster.specs.Roll.{Roll}
use Rattle.fab_state.specs.Fit.{AreLogins, FitsClock, FitsLogin}
use Rattle.forward_core.specs.Restoring.{AddsPorts, AwaitsPorts, CanAdd, held_again, past_left, past_with, without_holder}
use Rattle.forward_core.proofs.MiddleLemmas.{ascend_before, counted_ascend, found_before, found_middle, found_pushed, is_equal, map_twice, moved_on, none_before}
use Rattle.forward_core.proofs.RefillLemmas.{left_address, same_bounds}

-- ---- single facts

past_address : (q : Past) (o : Option LivePort) → (past_with q o).address ≡ q.address
past_address q None = left_address q.address q.name q.ended
past_address q (Some p) = refl

-- an address that nobody had is free
free_so : (T : Tables) (r : Request) (a : ℕ) → past_at a T.past ≡ Some (never_had a) → port_at a T.ports ≡ None → is_free T r a ≡ true
free_so T r a past port =
    ap (λ (o : Option Past). elim o [ None ↦ false | Some q ↦ is_open T r q ]) past
    ∙ ap (λ (o : Option LivePort). elim o [ Some p ↦ r.flogi && same_enode p.enode r.enode && p.name == r.name | None ↦ may_have r.name (now_of T) None None ]) port

-- nobody before has the name
name_before : (xs : List LivePort) (p : LivePort) (ys : List LivePort) → HaveDifferentNames (xs ++ p ∷ ys) → list_any (λ (q : LivePort). q.name == p.name) xs ≡ false
name_before [] p ys h = refl
name_before (z ∷ xs) p ys h = ap (λ b. b || list_any (λ (q : LivePort). q.name == p.name) xs) (other (z.name == p.name) refl) ∙ name_before xs p ys h.1
  where
    new : (ws : List LivePort) → IsNew z (ws ++ p ∷ ys) → z.name ≡ p.name → ⊥
    new [] i = i.0
    new (w ∷ ws) i = new ws i.1

    other : (b : Bool) → z.name == p.name ≡ b → z.name == p.name ≡ false
    other true e = absurd (new xs h.0 (is_equal z.name p.name e))
    other false e = e

login_middle : (c : Settings) (n : ℕ) (T : Tables) (least : ℕ) (xs : List LivePort) (p : LivePort) (ys : List LivePort) → AreLogins c n T least (xs ++ p ∷ ys) → (from : ℕ) × FitsLogin c n T from p ys
login_middle c n T least [] p ys h = (least, h.0)
login_middle c n T least (z ∷ xs) p ys h = login_middle c n T (z.address + 1) xs p ys h.1

length_middle : (xs : List LivePort) (p : LivePort) (ys : List LivePort) → length xs < length (xs ++ p ∷ ys)
length_middle [] p ys = omega arith
length_middle (z ∷ xs) p ys = let more = length_middle xs p ys in omega (arith, more)

size_so : (o : Option ℕ) → IfSome o IsCutSize → IfSome o IsSize
size_so None h = tt
size_so (Some size) h = record { least = h.0; most = h.1; words = h.2 }

now_low : (c : Settings) (S : State) (t last : Option ℕ) → FitsClock c S t last → unwrap_or t 0 < 2 ^ 43
now_low c S None last h = omega arith
now_low c S (Some t) None h = absurd h
now_low c S (Some t) (Some last) h = h.range

-- N_Ports that were heard with it are heard when they were
heard_so : (x : Enode) (at : ℕ) (p : LivePort) → (same_enode p.enode x ≡ true → p.node_heard ≡ at) → heard_node x at p ≡ p
heard_so x at p same = go (same_enode p.enode x) same
  where
    go : (b : Bool) → (b ≡ true → p.node_heard ≡ at) → (if b then record p { node_heard = at } else p) ≡ p
    go true h = ap (λ t. record p { node_heard = t }) (sym (h refl))
    go false h = refl

granted_so : (a name : ℕ) (z : Past) (b : ℕ) → z.address ≡ b → granted_to a name z ≡ (if b == a then held b name else z)
granted_so a name z b e = ap (λ k. if k == a then record { address = z.address; name = Some name; ended = None } else z) e ∙ ap (λ k. if b == a then held k name else z) e

-- ---- all

-- what is there after some of them
pub record PortsSoFar (s : Seam) (rest : List LivePort) (old r : Roll) : Type 0 where
  pub done : List LivePort
  pub is : done ++ rest ≡ s.state.tables.ports
  pub bounds : KeepsBounds old r
  pub clock : r.tables.clock ≡ old.tables.clock
  pub sound : IsSoundRoll r
  pub ports : r.tables.ports ≡ done
  pub past_is : r.tables.past ≡ map (held_again done) s.state.tables.past

held_by_none : (P : List Past) → map without_holder P ≡ map (held_again []) P
held_by_none [] = refl
held_by_none (q ∷ P) = ap (λ l. without_holder q ∷ l) (held_by_none P)

pub ports_begin : (s : Seam) (rest : List LivePort) (r : Roll) → rest ≡ s.state.tables.ports → AwaitsPorts s r → IsSoundRoll r → PortsSoFar s rest r r
ports_begin s rest r all awaits sound = record {
  done = [];
  is = all;
  bounds = same_bounds r;
  clock = refl;
  sound = sound;
  ports = awaits.ports;
  past_is = awaits.past ∙ held_by_none s.state.tables.past;
}

module _ (s : Seam) (p : LivePort) (behind : List LivePort) (old r : Roll) (awaits : AwaitsPorts s old) (state : IsSoundState awaits.settings s.state) (sofar : PortsSoFar s (p ∷ behind) old r) where
  ascends : AscendFrom (λ (q : LivePort). q.address) (awaits.settings.domain * 65536 + 256) (sofar.done ++ p ∷ behind)
  ascends = subst (λ l. AscendFrom (λ (q : LivePort). q.address) (awaits.settings.domain * 65536 + 256) l) (sym sofar.is) state.tables.ascending.0

  nobody : port_at p.address sofar.done ≡ None
  nobody = none_before (λ (q : LivePort). q.address) (awaits.settings.domain * 65536 + 256) sofar.done p behind ascends

  there : port_at p.address s.state.tables.ports ≡ Some p
  there = ap (port_at p.address) (sym sofar.is) ∙ found_middle (λ (q : LivePort). q.address) (awaits.settings.domain * 65536 + 256) sofar.done p behind ascends

  unused : past_at p.address r.tables.past ≡ Some (never_had p.address)
  unused =
      ap (past_at p.address) sofar.past_is
      ∙ find-map (λ (q : Past). q.address == p.address) (held_again sofar.done) (λ (q : Past). ap (λ k. k == p.address) (past_address q (port_at q.address sofar.done))) s.state.tables.past
      ∙ ap (option_map (held_again sofar.done)) (state.held p.address p there)
      ∙ ap (λ o. Some (past_with (held p.address p.name) o)) nobody

  pub can_add : CanAdd p r
  can_add = record {
    clock = subst (λ o. IsSome o) (sym (sofar.clock ∙ awaits.clock)) awaits.runs;
    free = free_so r.tables (record { flogi = false; enode = p.enode; name = p.name }) p.address unused (ap (port_at p.address) sofar.ports ∙ nobody);
    name = ap (list_any (λ (q : LivePort). q.name == p.name)) sofar.ports ∙ name_before sofar.done p behind names;
    room =
        let more = length_middle sofar.done p behind in
        let few : length (sofar.done ++ p ∷ behind) ≤ awaits.settings.limit = subst (λ (l : List LivePort). length l ≤ awaits.settings.limit) (sym sofar.is) awaits.fit.few in
        let ports = ap length sofar.ports in
        let limit = sofar.bounds.limit ∙ awaits.limit in
        omega (arith, more, few, ports, limit);
    size = size_so p.server fits.served.0;
    node = let heard = fits.node_heard in omega (arith, heard, low);
    port = let heard = fits.port_heard in omega (arith, heard, low);
    watch = fits.served.1;
    kept = fits.kept;
  }
    where
      names : HaveDifferentNames (sofar.done ++ p ∷ behind)
      names = subst HaveDifferentNames (sym sofar.is) state.tables.names

      low : now_of s.state.tables < 2 ^ 43
      low = now_low awaits.settings s.state s.state.tables.clock s.state.advertised awaits.fit.clock

      found : (from : ℕ) × FitsLogin awaits.settings awaits.count s.state.tables from p behind
      found = login_middle awaits.settings awaits.count s.state.tables (awaits.settings.domain * 65536 + 256) sofar.done p behind
          (subst (λ l. AreLogins awaits.settings awaits.count s.state.tables (awaits.settings.domain * 65536 + 256) l) (sym sofar.is) awaits.fit.logins)

      fits : FitsLogin awaits.settings awaits.count s.state.tables found.0 p behind
      fits = found.1

  -- who is there was heard with p, where it has the same ENode
  stays : (b : ℕ) (o : Option LivePort) → port_at b sofar.done ≡ o → option_map (heard_node p.enode p.node_heard) o ≡ o
  stays b None e = refl
  stays b (Some q) e =
      let before : port_at b s.state.tables.ports ≡ Some q = ap (port_at b) (sym sofar.is) ∙ found_before (λ (x : LivePort). x.address) sofar.done (p ∷ behind) b q e in
      ap Some (heard_so p.enode p.node_heard q (λ same. state.voices b p.address q p before there same))

  pushed : (new : Roll) → Restores p r new → IsSoundRoll new → new.tables.ports ≡ sofar.done ++ p ∷ []
  pushed new restores sound =
      equal_by_items (λ (x : LivePort). x.address) 0 new.tables.ports (sofar.done ++ p ∷ []) (AscendFrom-weaker (λ (x : LivePort). x.address) 0 new.lowest new.tables.ports (omega arith) sound.ascending.0) after
      (λ b.
      restores.ports b
      ∙ ap (λ o. if b == p.address then Some p else o) (ap (λ l. option_map (heard_node p.enode p.node_heard) (port_at b l)) sofar.ports ∙ stays b (port_at b sofar.done) refl)
      ∙ sym (found_pushed (λ (x : LivePort). x.address) sofar.done p b nobody))
    where
      after : AscendFrom (λ (x : LivePort). x.address) 0 (sofar.done ++ p ∷ [])
      after =
          AscendFrom-weaker (λ (x : LivePort). x.address) 0 (awaits.settings.domain * 65536 + 256) (sofar.done ++ p ∷ []) (omega arith)
          (ascend_before (λ (x : LivePort). x.address) (awaits.settings.domain * 65536 + 256) (sofar.done ++ p ∷ []) behind
          (subst (λ l. AscendFrom (λ (x : LivePort). x.address) (awaits.settings.domain * 65536 + 256) l) (sym (moved_on sofar.done p behind)) ascends))

  holds : (q : Past) → granted_to p.address p.name (held_again sofar.done q) ≡ held_again (sofar.done ++ p ∷ []) q
  holds q =
      granted_so p.address p.name (held_again sofar.done q) q.address (past_address q (port_at q.address sofar.done))
      ∙ go (q.address == p.address) (port_at q.address sofar.done)
      ∙ ap (past_with q) (sym (found_pushed (λ (x : LivePort). x.address) sofar.done p q.address nobody))
    where
      go : (b : Bool) (o : Option LivePort) → (if b then held q.address p.name else past_with q o) ≡ past_with q (if b then Some p else o)
      go true o = refl
      go false o = refl

  pub ports_go_on : (new : Roll) → Restores p r new → IsSoundRoll new → PortsSoFar s behind old new
  ports_go_on new restores sound = record {
    done = sofar.done ++ p ∷ [];
    is = moved_on sofar.done p behind ∙ sofar.is;
    bounds = record {
      lowest = restores.bounds.lowest ∙ sofar.bounds.lowest;
      count = restores.bounds.count ∙ sofar.bounds.count;
      limit = restores.bounds.limit ∙ sofar.bounds.limit;
      period = restores.bounds.period ∙ sofar.bounds.period;
    };
    clock = restores.clock ∙ sofar.clock;
    sound = sound;
    ports = pushed new restores sound;
    past_is =
        restores.past ∙ ap (map (granted_to p.address p.name)) sofar.past_is
        ∙ map_twice (held_again sofar.done) (granted_to p.address p.name) (held_again (sofar.done ++ p ∷ [])) holds s.state.tables.past;
  }

pub ports_end : (s : Seam) (rest : List LivePort) (old r : Roll) → PortsSoFar s rest old r → rest ≡ [] → AddsPorts s old r
ports_end s rest old r sofar none = record {
  bounds = sofar.bounds;
  clock = sofar.clock;
  ports = sofar.ports ∙ all;
  past = sofar.past_is ∙ ap (λ l. map (held_again l) s.state.tables.past) all;
}
  where
    all : sofar.done ≡ s.state.tables.ports
    all = sym (append-nil sofar.done) ∙ ap (λ l. sofar.done ++ l) (sym none) ∙ sofar.is

-- ---- what comes of it

freed_so : (a : ℕ) (name ended : Option ℕ) → ((name ≡ None) × (ended ≡ None)) ⊎ (IsSome name × IsSome ended) → past_left a name ended ≡ record { address = a; name = name; ended = ended }
freed_so a None None h = refl
freed_so a None (Some t) (inl h) = absurd (cc)
freed_so a None (Some t) (inr h) = absurd (cc)
freed_so a (Some x) None (inl h) = absurd (cc)
freed_so a (Some x) None (inr h) = absurd (cc)
freed_so a (Some x) (Some t) h = refl

-- then each address has its past
pub held_so : (c : Settings) (S : State) → IsSoundState c S → map (held_again S.tables.ports) S.tables.past ≡ S.tables.past
held_so c S state =
    equal_by_items (λ (q : Past). q.address) (c.domain * 65536 + 256) (map (held_again S.tables.ports) S.tables.past) S.tables.past
    (counted_ascend (λ (q : Past). q.address) (map (held_again S.tables.ports) S.tables.past) (c.domain * 65536 + 256) c.pool (places S.tables.past ∙ state.places))
    (counted_ascend (λ (q : Past). q.address) S.tables.past (c.domain * 65536 + 256) c.pool state.places)
    (λ a. find-map (λ (q : Past). q.address == a) (held_again S.tables.ports) (λ (q : Past). ap (λ k. k == a) (past_address q (port_at q.address S.tables.ports))) S.tables.past ∙ go a (past_at a S.tables.past) refl)
  where
    places : (P : List Past) → map (λ (q : Past). q.address) (map (held_again S.tables.ports) P) ≡ map (λ (q : Past). q.address) P
    places [] = refl
    places (q ∷ P) = ap (λ k. k ∷ map (λ (x : Past). x.address) (map (held_again S.tables.ports) P)) (past_address q (port_at q.address S.tables.ports)) ∙ ap (λ l. q.address ∷ l) (places P)

    so : (a : ℕ) (q : Past) → past_at a S.tables.past ≡ Some q → q.address ≡ a → (o : Option LivePort) → port_at a S.tables.ports ≡ o → past_with q o ≡ q
    so a q e key None none = freed_so q.address q.name q.ended (state.freed a q none e)
    so a q e key (Some p) some =
        let at : p.address ≡ a = item_at-key (λ (x : LivePort). x.address) a S.tables.ports p some in
        let holds : past_at a S.tables.past ≡ Some (held p.address p.name) = ap (λ b. past_at b S.tables.past) (sym at) ∙ state.held a p some in
        let is : held p.address p.name ≡ q = ap (λ (o : Option Past). unwrap_or o q) (sym holds ∙ e) in
        ap (λ k. held k p.name) (key ∙ sym at) ∙ is

    go : (a : ℕ) (o : Option Past) → past_at a S.tables.past ≡ o → option_map (held_again S.tables.ports) o ≡ o
    go a None e = refl
    go a (Some q) e =
        let key : q.address ≡ a = item_at-key (λ (x : Past). x.address) a S.tables.past q e in
        ap Some (ap (λ b. past_with q (port_at b S.tables.ports)) key ∙ so a q e key (port_at a S.tables.ports) refl)

pub tables_so : (T U : Tables) → T.clock ≡ U.clock → T.ports ≡ U.ports → T.past ≡ U.past → T ≡ U
tables_so T U clock ports past = (λ i. record { clock = clock i; ports = ports i; past = past i })
