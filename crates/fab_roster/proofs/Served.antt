-- The tables and the N_Ports after a login to the name server, and after a request to watch.
use Rattle.std.proofs.Common.{◌≡◌, ℕ, ◌==◌, Bool, true, false, Option, Some, None, option_map, is_some, IsSome, IfSome, refl, sym, ap, subst, ◌∙◌, if◌then◌else◌, arith}
use Rattle.std.proofs.lemmas.Bool.Decides.{nat_tests}
use Rattle.std.specs.Option.{option_map_or}
use Rattle.fab_base.proofs.KeyedLemmas.{length-fewer}
use Rattle.fab_base.specs.Fabric.{past_at}
use Rattle.fc_addresses.specs.Pool as pool
use Rattle.fab_policy.specs.Changes.{with_server, with_watch}
use Rattle.keepalive_clock.specs.Clock.{last_of}
use Rattle.keepalive_clock.specs.declared.voice.Voice.{Voice}
use Rattle.keepalive_clock.specs.declared.voice.Voice.TheVariants.{Node, Port}
use Rattle.login_table.specs.Logins as logins
use Rattle.login_table.specs.Logins.{Logins, login_at, sized, with_size}
use Rattle.login_table.specs.declared.login.Login.{Login}
use Rattle.name_server.specs.Registry.{Entry, entry_at}
use Rattle.state_change.specs.Watchers as watching
use Rattle.state_change.specs.Watchers.{Watching, watcher_at, asked, HasPlace}
use Rattle.state_change.specs.declared.watcher.Watcher.{Watcher}
use Rattle.fab_roster.specs.Agreement.{Agree, IsHeldBy, SpeaksFor}
use Rattle.fab_roster.specs.Changes.{ChangesPorts, IsSize}
use Rattle.fab_roster.specs.Roll.{Roll, live_of, roll_of}
use Rattle.fab_roster.specs.declared.roster.Roster.TheInside.{Inside}
use Rattle.fab_roster.proofs.Found.{equal, some_found}
use Rattle.fab_roster.proofs.Heard.{changed_ports, each_changed}
use Rattle.fab_roster.proofs.Lookups.{port_of_login}

pub none_some : {X : Type 0} (x : X) → None ≡ Some x → ⊥
none_some x e = cc

pub some_same : {X : Type 0} (x y : X) → Some x ≡ Some y → x ≡ y
some_same x y e = cc

-- ---- a login to the name server

-- what holds of a login with and without the receive size holds of it sized
by_sized : (a : ℕ) (size : Option ℕ) (P : Login → Type 0) (l : Login) → P l → P (with_size size l) → P (sized a size l)
by_sized a size P l other this = go (l.address == a)
  where
    go : (b : Bool) → P (if b then with_size size l else l)
    go true = this
    go false = other

module _ (t : Inside) (s : Logins) (a : ℕ) (size : Option ℕ) (found : (b : ℕ) → login_at b s.logins ≡ option_map (sized a size) (login_at b t.logins.logins)) where
  abbrev served : Inside
  served = record t { logins = s }

  pub server_changes : {R : Roll} → roll_of t ≡ R → ChangesPorts (with_server a size) R (roll_of served)
  server_changes view = changed_ports t view (with_server a size) s t.voices t.registry t.watchers (λ b.
      port_of_login served b
      ∙ (ap (λ o. option_map (live_of t) o) (found b)
      ∙ (go (login_at b t.logins.logins) ∙ ap (λ o. option_map (with_server a size) o) (sym (port_of_login t b)))))
    where
      one : (l : Login) (c : Bool) → live_of t (if c then with_size size l else l) ≡ (if c then record (live_of t l) { server = size } else live_of t l)
      one l true = refl
      one l false = refl

      go : (o : Option Login) → option_map (live_of t) (option_map (sized a size) o) ≡ option_map (with_server a size) (option_map (live_of t) o)
      go None = refl
      go (Some l) = ap (λ p. Some p) (one l (l.address == a))

  -- what holds of each login, sized or not, holds of each afterwards
  each_after : (P : Login → Type 0) → ((b : ℕ) (l : Login) → login_at b t.logins.logins ≡ Some l → P l × P (with_size size l)) →
      (b : ℕ) (m : Login) → login_at b s.logins ≡ Some m → P m
  each_after P each b m e = go (login_at b t.logins.logins) refl (sym (found b) ∙ e)
    where
      go : (o : Option Login) → login_at b t.logins.logins ≡ o → option_map (sized a size) o ≡ Some m → P m
      go None is i = absurd (none_some m i)
      go (Some l) is i = subst P (some_same (sized a size l) m i) (by_sized a size P l (each b l is).0 (each b l is).1)

  after : (b : ℕ) (l : Login) → login_at b t.logins.logins ≡ Some l → login_at b s.logins ≡ Some (sized a size l)
  after b l e = found b ∙ ap (λ o. option_map (sized a size) o) e

  speaks_after : (v : Voice) (l : Login) → login_at l.address t.logins.logins ≡ Some l → SpeaksFor v l → (m : Login) × (login_at m.address s.logins ≡ Some m) × SpeaksFor v m
  speaks_after v l e speaks = (
    sized a size l,
    subst (λ (b : ℕ). login_at b s.logins ≡ Some (sized a size l)) (sym (by_sized a size (λ m. m.address ≡ l.address) l refl refl)) (after l.address l e),
    by_sized a size (λ m. SpeaksFor v m) l speaks (as_sized v speaks),
  )
    where
      as_sized : (u : Voice) → SpeaksFor u l → SpeaksFor u (with_size size l)
      as_sized (Node x) h = h
      as_sized (Port b) h = h

  held_after : Agree t → (b : ℕ) → IsHeldBy b t.pool (login_at b s.logins)
  held_after agree b = subst (λ (o : Option Login). IsHeldBy b t.pool o) (sym (found b)) (go (login_at b t.logins.logins) (agree.pool.held b))
    where
      go : (o : Option Login) → IsHeldBy b t.pool o → IsHeldBy b t.pool (option_map (sized a size) o)
      go None h = h
      go (Some l) h = by_sized a size (λ m. past_at b t.pool ≡ Some (pool.held b m.name)) l h h

  pub server_agrees : Agree t → s.limit ≡ t.logins.limit → logins.IsSound s → IfSome size IsSize → Agree served
  server_agrees agree limit sound fits = record {
    logins = record { sound = sound; limit = limit ∙ agree.logins.limit; sizes = each_after (λ l. IfSome l.server_size IsSize) (λ b l e. (agree.logins.sizes b l e, fits)) };
    voices = record {
      sound = agree.voices.sound;
      node_period = agree.voices.node_period;
      port_period = agree.voices.port_period;
      room = agree.voices.room;
      nodes = each_after (λ l. IsSome (last_of (Node l.enode) t.voices.voices)) (λ b l e. (agree.voices.nodes b l e, agree.voices.nodes b l e));
      ports = each_after (λ l. IsSome (last_of (Port l.address) t.voices.voices)) (λ b l e. (agree.voices.ports b l e, agree.voices.ports b l e));
      speak = λ v h. let f = agree.voices.speak v h in speaks_after v f.0 f.1 f.2;
    };
    entries = record {
      sound = agree.entries.sound;
      room = agree.entries.room;
      known = each_after (λ l. (e : Entry) × (entry_at l.address t.registry.entries ≡ Some e) × (e.node ≡ l.node)) (λ b l e. (agree.entries.known b l e, agree.entries.known b l e));
      only = λ b h. let f = some_found (login_at b t.logins.logins) (agree.entries.only b h) in ap (λ o. is_some o) (after b f.0 f.1);
    };
    watchers = record {
      sound = agree.watchers.sound;
      room = agree.watchers.room;
      known = λ b x e. let f = agree.watchers.known b x e in (sized a size f.0, after b f.0 f.1, by_sized a size (λ m. x.name ≡ m.name) f.0 f.2 f.2);
    };
    pool = record { held = held_after agree; places = agree.pool.places; ended = agree.pool.ended; range = agree.pool.range };
  }

-- ---- watchers

module _ {t : Inside} (agree : Agree t) (a f : ℕ) (l : Login) (is : login_at a t.logins.logins ≡ Some l) where
  -- each watcher has a login, so there is a place for one that has a login and isn't a watcher
  pub has_place : HasPlace a f t.watchers
  has_place asks none =
      let fewer = length-fewer watching.address_of logins.address_of 0 0 a t.watchers.watchers t.logins.logins agree.watchers.sound.ascending agree.logins.sound.ascending within none (ap (λ o. is_some o) is) in
      omega (arith, fewer, agree.logins.sound.bound, agree.logins.limit, agree.watchers.room)
    where
      within : (b : ℕ) → IsSome (watcher_at b t.watchers.watchers) → IsSome (login_at b t.logins.logins)
      within b h = let x = some_found (watcher_at b t.watchers.watchers) h in ap (λ o. is_some o) (agree.watchers.known b x.0 x.1).1

  module _ (w : Watching) (found : (b : ℕ) → watcher_at b w.watchers ≡ (if a == b then asked a l.name f else watcher_at b t.watchers.watchers)) where
    pub watch_agrees : w.room ≡ t.watchers.room → watching.IsSound w → Agree (record t { watchers = w })
    watch_agrees room sound = record {
      logins = agree.logins;
      voices = agree.voices;
      entries = agree.entries;
      watchers = record { sound = sound; room = room ∙ agree.watchers.room; known = λ b x e. go b x (a == b) refl (sym (found b) ∙ e) };
      pool = agree.pool;
    }
      where
        by_function : (x : Watcher) (c : Bool) → (if c then None else Some (record { address = a; name = l.name; function = f })) ≡ Some x → x.name ≡ l.name
        by_function x true i = absurd (none_some x i)
        by_function x false i = ap (λ (y : Watcher). y.name) (sym (some_same _ x i))

        go : (b : ℕ) (x : Watcher) (c : Bool) → a == b ≡ c → (if c then asked a l.name f else watcher_at b t.watchers.watchers) ≡ Some x → (m : Login) × (login_at b t.logins.logins ≡ Some m) × (x.name ≡ m.name)
        go b x true this i = (l, subst (λ (y : ℕ). login_at y t.logins.logins ≡ Some l) (equal a b this) is, by_function x (f == 255) i)
        go b x false other i = agree.watchers.known b x i

    -- the N_Port of the address watches as it asked
    pub watch_changes : {R : Roll} → roll_of t ≡ R → ChangesPorts (with_watch a f) R (roll_of (record t { watchers = w }))
    watch_changes view = each_changed t view (with_watch a f) t.voices t.registry w (λ b m e.
        grind (arith, nat_tests, ap (λ o. option_map_or (λ (x : Watcher). x.function) o 0) (found m.address)))
