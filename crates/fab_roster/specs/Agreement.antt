-- What the five tables keep of each other, address by address. No public clause cites this module.
use Rattle.std.specs.Prelude.{◌≡◌, ℕ, ◌*◌, ◌<◌, ◌^◌, List, map, Option, Some, IsSome, IfSome, MatchOption, unwrap_or, true, false, Bool, not, ◌==◌, ◌&&◌}
use Rattle.std.specs.List.{list_any}
use Rattle.fab_base.specs.Fabric.{Past, past_at, same_enode, PORT_PERIOD}
use Rattle.fc_addresses.specs.Pool as pool
use Rattle.login_table.specs.Logins.{Logins, login_at}
use Rattle.login_table.specs.Logins as logins
use Rattle.login_table.specs.declared.login.Login.{Login}
use Rattle.keepalive_clock.specs.Clock.{VoiceClock, last_of}
use Rattle.keepalive_clock.specs.Clock as clocks
use Rattle.keepalive_clock.specs.declared.voice.Voice.{Voice}
use Rattle.keepalive_clock.specs.declared.voice.Voice.TheVariants.{Node, Port}
use Rattle.name_server.specs.Registry.{Entry, Registrations, entry_at}
use Rattle.name_server.specs.Registry as registry
use Rattle.state_change.specs.Watchers.{Watching, watcher_at}
use Rattle.state_change.specs.Watchers as watching
use Rattle.state_change.specs.declared.watcher.Watcher.{Watcher}
use Rattle.fab_roster.specs.Changes.{IsSize}
use Rattle.fab_roster.specs.declared.roster.Roster.TheInside.{Inside}

-- a voice speaks for a login
abbrev pub SpeaksFor : Voice → Login → Type 0
SpeaksFor (Node x) l = same_enode l.enode x ≡ true
SpeaksFor (Port a) l = l.address ≡ a

-- what the pool says of an address that a login holds, and of another
abbrev pub IsHeldBy : ℕ → List Past → Option Login → Type 0
IsHeldBy a addresses held = MatchOption held (pool.is_held addresses a ≡ false) (λ l. past_at a addresses ≡ Some (pool.held a l.name))

-- There may be as many logins as in the roster, and each receive size is one that answers can be cut at.
pub record LoginsFit (n : ℕ) (t : Logins) : Type 0 where
  pub sound : logins.IsSound t
  pub limit : t.limit ≡ n
  pub sizes : (a : ℕ) (l : Login) → login_at a t.logins ≡ Some l → IfSome l.server_size IsSize

-- Both voices of each login are there, and each voice speaks for a login.
pub record VoicesFit (n period : ℕ) (ls : List Login) (k : VoiceClock) : Type 0 where
  pub sound : clocks.IsSound k
  pub node_period : k.node_period ≡ period
  pub port_period : k.port_period ≡ PORT_PERIOD
  pub room : k.room ≡ 2 * n
  pub nodes : (a : ℕ) (l : Login) → login_at a ls ≡ Some l → IsSome (last_of (Node l.enode) k.voices)
  pub ports : (a : ℕ) (l : Login) → login_at a ls ≡ Some l → IsSome (last_of (Port l.address) k.voices)
  pub speak : (v : Voice) → IsSome (last_of v k.voices) → (l : Login) × (login_at l.address ls ≡ Some l) × SpeaksFor v l

-- Each login has its entry, and each entry has a login.
pub record EntriesFit (n : ℕ) (ls : List Login) (r : Registrations) : Type 0 where
  pub sound : registry.IsSound r
  pub room : r.room ≡ n
  pub known : (a : ℕ) (l : Login) → login_at a ls ≡ Some l → (e : Entry) × (entry_at l.address r.entries ≡ Some e) × (e.node ≡ l.node)
  pub only : (a : ℕ) → IsSome (entry_at a r.entries) → IsSome (login_at a ls)

-- Each watcher has a login, and its name.
pub record WatchersFit (n : ℕ) (ls : List Login) (w : Watching) : Type 0 where
  pub sound : watching.IsSound w
  pub room : w.room ≡ n
  pub known : (a : ℕ) (x : Watcher) → watcher_at a w.watchers ≡ Some x → (l : Login) × (login_at a ls ≡ Some l) × (x.name ≡ l.name)

-- The addresses are those that the pool was made for, logins hold theirs and none else, and no login ended after the clock.
pub record PoolFits (lowest count now : ℕ) (ls : List Login) (addresses : List Past) : Type 0 where
  pub held : (a : ℕ) → IsHeldBy a addresses (login_at a ls)
  pub places : map (λ p. p.address) addresses ≡ map (λ p. p.address) (pool.unused lowest count)
  pub ended : pool.AreEndedBy now addresses
  pub range : now < 2 ^ 63

-- Each login stands in each table, and nothing stands in a table but for a login.
pub record Agree (i : Inside) : Type 0 where
  pub logins : LoginsFit i.limit i.logins
  pub voices : VoicesFit i.limit i.period i.logins.logins i.voices
  pub entries : EntriesFit i.limit i.logins.logins i.registry
  pub watchers : WatchersFit i.limit i.logins.logins i.watchers
  pub pool : PoolFits i.lowest i.count (unwrap_or i.clock 0) i.logins.logins i.pool

-- once the login is gone from these, a voice speaks for nobody any more
abbrev pub is_silenced : List Login → Login → Voice → Bool
is_silenced ls gone (Port a) = gone.address == a
is_silenced ls gone (Node x) = same_enode gone.enode x && not (list_any (λ l. same_enode l.enode gone.enode) ls)
