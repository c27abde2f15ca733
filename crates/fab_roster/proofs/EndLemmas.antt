-- The tables after the end of a login.
use Rattle.std.proofs.Common.{◌≡◌, ℕ, map, ◌==◌, ◌&&◌, not, Bool, true, false, Option, Some, None, option_map, is_some, is_none, IsSome, refl, sym, ap, subst, ◌∙◌, if◌then◌else◌, unwrap_or, arith}
use Rattle.std.proofs.lemmas.Bool.Decides.{nat_tests}
use Rattle.std.specs.List.{list_any}
use Rattle.std.specs.Option.{option_map_or}
use Rattle.fab_base.specs.Fabric.{past_at, same_enode}
use Rattle.fab_base.specs.declared.values.Enode.{Enode}
use Rattle.fc_addresses.specs.Pool as pool
use Rattle.login_table.specs.Logins as logins
use Rattle.login_table.specs.Logins.{login_at, address_of}
use Rattle.login_table.specs.declared.login.Login.{Login}
use Rattle.keepalive_clock.specs.Clock as clocks
use Rattle.keepalive_clock.specs.Clock.{last_of, KeepsLimits}
use Rattle.keepalive_clock.specs.declared.voice.Voice.{Voice}
use Rattle.keepalive_clock.specs.declared.voice.Voice.TheVariants.{Node, Port}
use Rattle.name_server.specs.Registry as registry
use Rattle.name_server.specs.Registry.{entry_at}
use Rattle.state_change.specs.Watchers as watching
use Rattle.state_change.specs.Watchers.{watcher_at}
use Rattle.state_change.specs.declared.watcher.Watcher.{Watcher}
use Rattle.fab_policy.specs.State.{port_at}
use Rattle.fab_policy.specs.Changes.{ended_at}
use Rattle.fab_base.proofs.SamenessLemmas.{list_any-found}
use Rattle.fab_roster.specs.Agreement.{Agree, IsHeldBy, SpeaksFor, is_silenced}
use Rattle.fab_roster.specs.Changes.{Ends}
use Rattle.fab_roster.specs.Roll.{Roll, live_of, ports_of, roll_of}
use Rattle.fab_roster.specs.declared.roster.Roster.TheInside.{Inside}
use Rattle.fab_roster.proofs.Found.{any-item_at, equal, item_at-key, true_false, turned, enode_refl, enode_same}
use Rattle.fab_roster.proofs.Lookups.{port_of_login}
use Rattle.fab_roster.proofs.TablesRead.{held_same}

-- What the calls say of the tables after them.
pub record AfterEnd (a now : ℕ) (gone : Login) (old new : Inside) : Type 0 where
  pub was : login_at a old.logins.logins ≡ Some gone
  pub sound_logins : logins.IsSound new.logins
  pub limit : new.logins.limit ≡ old.logins.limit
  pub logins : (b : ℕ) → login_at b new.logins.logins ≡ (if a == b then None else login_at b old.logins.logins)
  pub past : new.pool ≡ pool.released old.pool a now
  pub addresses : pool.EndsLogin a now old.pool new.pool
  pub places : pool.addresses new.pool ≡ pool.addresses old.pool
  pub order : pool.AreEndedBy now new.pool
  pub limits : KeepsLimits old.voices new.voices
  pub voices : (v : Voice) → last_of v new.voices.voices ≡ (if is_silenced new.logins.logins gone v then None else last_of v old.voices.voices)
  pub entry_room : new.registry.room ≡ old.registry.room
  pub entries : (b : ℕ) → entry_at b new.registry.entries ≡ (if a == b then None else entry_at b old.registry.entries)
  pub watcher_room : new.watchers.room ≡ old.watchers.room
  pub watchers : (b : ℕ) → watcher_at b new.watchers.watchers ≡ (if a == b then None else watcher_at b old.watchers.watchers)
  pub sound_voices : clocks.IsSound new.voices
  pub sound_entries : registry.IsSound new.registry
  pub sound_watchers : watching.IsSound new.watchers

-- the tables after them
abbrev pub ended : Inside → Inside → Inside
ended old new = record old { pool = new.pool; logins = new.logins; voices = new.voices; registry = new.registry; watchers = new.watchers }

module _ {a now : ℕ} {gone : Login} {old new : Inside} (agree : Agree old) (clock : old.clock ≡ Some now) (s : AfterEnd a now gone old new) where
  -- a login that is left was there, at another address
  left : (b : ℕ) (l : Login) → login_at b new.logins.logins ≡ Some l → (a == b ≡ false) × (login_at b old.logins.logins ≡ Some l)
  left b l e = (grind (arith, nat_tests, s.logins b, e), grind (arith, nat_tests, s.logins b, e))

  gone_at : gone.address ≡ a
  gone_at = item_at-key address_of a old.logins.logins gone s.was

  -- its ENode isn't silenced, nor is it
  heard_still : (b : ℕ) (l : Login) → login_at b new.logins.logins ≡ Some l → is_silenced new.logins.logins gone (Node l.enode) ≡ false
  heard_still b l e = go (same_enode gone.enode l.enode) refl
    where
      go : (x : Bool) → same_enode gone.enode l.enode ≡ x → x && not (list_any (λ y. same_enode y.enode gone.enode) new.logins.logins) ≡ false
      go false h = refl
      go true h = ap (λ y. true && not y) (list_any-found (λ y. y.address == b) (λ y. same_enode y.enode gone.enode) l new.logins.logins e
          (subst (λ x. same_enode l.enode x ≡ true) (sym (enode_same gone.enode l.enode h)) (enode_refl l.enode)))

  apart : (b : ℕ) (l : Login) → login_at b new.logins.logins ≡ Some l → a == l.address ≡ false
  apart b l e = let was = left b l e in ap (λ x. a == x) (item_at-key address_of b old.logins.logins l was.1) ∙ was.0

  apart_too : (b : ℕ) (l : Login) → login_at b new.logins.logins ≡ Some l → gone.address == l.address ≡ false
  apart_too b l e = ap (λ x. x == l.address) gone_at ∙ apart b l e

  node_stays : (b : ℕ) (l : Login) → login_at b new.logins.logins ≡ Some l → last_of (Node l.enode) new.voices.voices ≡ last_of (Node l.enode) old.voices.voices
  node_stays b l e = s.voices (Node l.enode) ∙ ap (λ x. if x then None else last_of (Node l.enode) old.voices.voices) (heard_still b l e)

  port_stays : (b : ℕ) (l : Login) → login_at b new.logins.logins ≡ Some l → last_of (Port l.address) new.voices.voices ≡ last_of (Port l.address) old.voices.voices
  port_stays b l e = s.voices (Port l.address) ∙ ap (λ x. if x then None else last_of (Port l.address) old.voices.voices) (apart_too b l e)

  entry_stays : (b : ℕ) (l : Login) → login_at b new.logins.logins ≡ Some l → entry_at l.address new.registry.entries ≡ entry_at l.address old.registry.entries
  entry_stays b l e = s.entries l.address ∙ ap (λ x. if x then None else entry_at l.address old.registry.entries) (apart b l e)

  watcher_stays : (b : ℕ) (l : Login) → login_at b new.logins.logins ≡ Some l → watcher_at l.address new.watchers.watchers ≡ watcher_at l.address old.watchers.watchers
  watcher_stays b l e = s.watchers l.address ∙ ap (λ x. if x then None else watcher_at l.address old.watchers.watchers) (apart b l e)

  -- one that is there is left, but for the one that is gone
  stays : (b : ℕ) (l : Login) → a == b ≡ false → login_at b old.logins.logins ≡ Some l → login_at b new.logins.logins ≡ Some l
  stays b l h e = s.logins b ∙ (ap (λ x. if x then None else login_at b old.logins.logins) h ∙ e)

  -- ---- each voice speaks for a login that is left

  at_port : (x : ℕ) → is_silenced new.logins.logins gone (Port x) ≡ false → (l : Login) → l.address ≡ x → a == l.address ≡ false
  at_port x q l is = ap (λ y. a == y) is ∙ (ap (λ y. y == x) (sym gone_at) ∙ q)

  of_node : (y : Enode) → is_silenced new.logins.logins gone (Node y) ≡ false → (l : Login) → login_at l.address old.logins.logins ≡ Some l → same_enode l.enode y ≡ true →
      (m : Login) × (login_at m.address new.logins.logins ≡ Some m) × (same_enode m.enode y ≡ true)
  of_node y q l e is = by_place (a == l.address) refl
    where
      by_any : (z : Bool) → list_any (λ x. same_enode x.enode gone.enode) new.logins.logins ≡ z → same_enode gone.enode y ≡ true → (m : Login) × (login_at m.address new.logins.logins ≡ Some m) × (same_enode m.enode y ≡ true)
      by_any true g o =
          let f = any-item_at address_of (λ x. same_enode x.enode gone.enode) 0 new.logins.logins s.sound_logins.ascending g in
          (f.0, f.1, subst (λ x. same_enode x y ≡ true) (sym (enode_same f.0.enode gone.enode f.2)) o)
      by_any false g o = absurd (true_false (sym (ap (λ x. x && not (list_any (λ x. same_enode x.enode gone.enode) new.logins.logins)) o ∙ ap (λ x. true && not x) g) ∙ q))

      is_gone : a ≡ l.address → l ≡ gone
      is_gone i = let at : Some l ≡ Some gone = sym e ∙ (ap (λ x. login_at x old.logins.logins) (sym i) ∙ s.was) in cc

      by_place : (z : Bool) → a == l.address ≡ z → (m : Login) × (login_at m.address new.logins.logins ≡ Some m) × (same_enode m.enode y ≡ true)
      by_place false z = (l, stays l.address l z e, is)
      by_place true z = by_any (list_any (λ x. same_enode x.enode gone.enode) new.logins.logins) refl (subst (λ (m : Login). same_enode m.enode y ≡ true) (is_gone (equal a l.address z)) is)

  by_voice : (u : Voice) → is_silenced new.logins.logins gone u ≡ false → (l : Login) × (login_at l.address old.logins.logins ≡ Some l) × SpeaksFor u l → (l : Login) × (login_at l.address new.logins.logins ≡ Some l) × SpeaksFor u l
  by_voice (Port x) q f = (f.0, stays f.0.address f.0 (at_port x q f.0 f.2) f.1, f.2)
  by_voice (Node y) q f = of_node y q f.0 f.1 f.2

  voices_after : (v : Voice) → IsSome (last_of v new.voices.voices) → (l : Login) × (login_at l.address new.logins.logins ≡ Some l) × SpeaksFor v l
  voices_after v h = go (is_silenced new.logins.logins gone v) refl (subst (λ o. IsSome o) (s.voices v) h)
    where
      go : (x : Bool) → is_silenced new.logins.logins gone v ≡ x → IsSome (if x then None else last_of v old.voices.voices) → (l : Login) × (login_at l.address new.logins.logins ≡ Some l) × SpeaksFor v l
      go true q i = absurd (true_false (sym i))
      go false q i = by_voice v q (agree.voices.speak v i)

  -- ---- the addresses of the pool

  was_held : past_at a old.pool ≡ Some (pool.held a gone.name)
  was_held = subst (λ o. IsHeldBy a old.pool o) s.was (agree.pool.held a)

  held_after : (b : ℕ) → IsHeldBy b new.pool (login_at b new.logins.logins)
  held_after b = go (a == b) refl
    where
      go : (x : Bool) → a == b ≡ x → IsHeldBy b new.pool (login_at b new.logins.logins)
      go true e =
          let none : login_at b new.logins.logins ≡ None = s.logins b ∙ ap (λ x. if x then None else login_at b old.logins.logins) e in
          let was : past_at b old.pool ≡ Some (pool.held b gone.name) = subst (λ y. past_at y old.pool ≡ Some (pool.held y gone.name)) (equal a b e) was_held in
          let over : past_at b new.pool ≡ Some (pool.ended_at now (pool.held b gone.name)) =
          s.addresses b ∙ (ap (λ x. if x then option_map (pool.ended_at now) (past_at b old.pool) else past_at b old.pool) e ∙ ap (λ o. option_map (pool.ended_at now) o) was) in
          subst (λ o. IsHeldBy b new.pool o) (sym none) (ap (λ o. option_map_or (λ p. is_some p.name && is_none p.ended) o false) over)
      go false e =
          let login : login_at b new.logins.logins ≡ login_at b old.logins.logins = s.logins b ∙ ap (λ x. if x then None else login_at b old.logins.logins) e in
          let past : past_at b new.pool ≡ past_at b old.pool = s.addresses b ∙ ap (λ x. if x then option_map (pool.ended_at now) (past_at b old.pool) else past_at b old.pool) e in
          subst (λ o. IsHeldBy b new.pool o) (sym login) (held_same b old.pool new.pool (login_at b old.logins.logins) past (agree.pool.held b))

  -- ---- entries and watchers

  entries_after : (b : ℕ) → IsSome (entry_at b new.registry.entries) → IsSome (login_at b new.logins.logins)
  entries_after b h = grind (arith, nat_tests, s.logins b, s.entries b, h, λ (there : IsSome (entry_at b old.registry.entries)). agree.entries.only b there)

  watchers_after : (b : ℕ) (x : Watcher) → watcher_at b new.watchers.watchers ≡ Some x → (l : Login) × (login_at b new.logins.logins ≡ Some l) × (x.name ≡ l.name)
  watchers_after b x h = go (a == b) refl (sym (s.watchers b) ∙ h)
    where
      go : (y : Bool) → a == b ≡ y → (if y then None else watcher_at b old.watchers.watchers) ≡ Some x → (l : Login) × (login_at b new.logins.logins ≡ Some l) × (x.name ≡ l.name)
      go true e i = cc
      go false e i = let f = agree.watchers.known b x i in (f.0, stays b f.0 e f.1, f.2)

  pub end_keeps : Agree (ended old new)
  end_keeps = record {
    logins = record { sound = s.sound_logins; limit = s.limit ∙ agree.logins.limit; sizes = λ b l e. agree.logins.sizes b l (left b l e).1 };
    voices = record {
      sound = s.sound_voices;
      node_period = s.limits.node_period ∙ agree.voices.node_period;
      port_period = s.limits.port_period ∙ agree.voices.port_period;
      room = s.limits.room ∙ agree.voices.room;
      nodes = λ b l e. subst (λ o. IsSome o) (sym (node_stays b l e)) (agree.voices.nodes b l (left b l e).1);
      ports = λ b l e. subst (λ o. IsSome o) (sym (port_stays b l e)) (agree.voices.ports b l (left b l e).1);
      speak = voices_after;
    };
    entries = record {
      sound = s.sound_entries;
      room = s.entry_room ∙ agree.entries.room;
      known = λ b l e. let n = agree.entries.known b l (left b l e).1 in (n.0, entry_stays b l e ∙ n.1, n.2);
      only = entries_after;
    };
    watchers = record { sound = s.sound_watchers; room = s.watcher_room ∙ agree.watchers.room; known = watchers_after };
    pool = record {
      held = held_after;
      places = s.places ∙ agree.pool.places;
      ended = subst (λ o. pool.AreEndedBy (unwrap_or o 0) new.pool) (sym clock) s.order;
      range = agree.pool.range;
    };
  }

  -- ---- the N_Ports that are left

  -- what the tables say of a login that is left
  left_same : (b : ℕ) (l : Login) → login_at b new.logins.logins ≡ Some l → live_of new l ≡ live_of old l
  left_same b l e = cc (node_stays b l e, port_stays b l e, entry_stays b l e, watcher_stays b l e)

  ports_after : (b : ℕ) → port_at b (ports_of new) ≡ (if b == a then None else port_at b (ports_of old))
  ports_after b = port_of_login new b
      ∙ (each (login_at b new.logins.logins) refl
      ∙ (ap (option_map (live_of old)) (s.logins b ∙ ap (λ x. if x then None else login_at b old.logins.logins) (turned a b))
      ∙ (out (b == a) ∙ ap (λ o. if b == a then None else o) (sym (port_of_login old b)))))
    where
      each : (o : Option Login) → login_at b new.logins.logins ≡ o → option_map (live_of new) o ≡ option_map (live_of old) o
      each None e = refl
      each (Some l) e = ap (λ p. Some p) (left_same b l e)

      out : (x : Bool) → option_map (live_of old) (if x then None else login_at b old.logins.logins) ≡ (if x then None else option_map (live_of old) (login_at b old.logins.logins))
      out true = refl
      out false = refl

  pub end_ends : {R : Roll} → roll_of old ≡ R → Ends a R (roll_of (ended old new))
  end_ends view = subst (λ r. Ends a r (roll_of (ended old new))) view (record {
    bounds = record { lowest = refl; count = refl; limit = refl; period = refl };
    clock = refl;
    past = s.past ∙ ap (λ (x : Option ℕ). map (ended_at a (unwrap_or x 0)) old.pool) (sym clock);
    ports = ports_after;
  })
