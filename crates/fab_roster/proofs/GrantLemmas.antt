-- The tables after a grant.
use Rattle.std.proofs.Common.{◌≡◌, ℕ, ◌≤◌, ◌==◌, Bool, true, false, Option, Some, None, option_map, is_some, IsSome, IfSome, refl, sym, ap, subst, ◌∙◌, if◌then◌else◌, unwrap_or, slice_index_or, arith}
use Rattle.std.proofs.lemmas.Bool.Decides.{nat_tests}
use Rattle.std.specs.Option.{option_map_or}
use Rattle.std.proofs.lemmas.List.Elements.{All-map}
use Rattle.fab_base.specs.Fabric.{Past, past_at}
use Rattle.fc_addresses.specs.Pool as pool
use Rattle.login_table.specs.Logins as logins
use Rattle.login_table.specs.Logins.{login_at, address_of}
use Rattle.login_table.specs.declared.login.Login.{Login}
use Rattle.keepalive_clock.specs.Clock as clocks
use Rattle.keepalive_clock.specs.Clock.{last_of, KeepsLimits}
use Rattle.keepalive_clock.specs.Voices.{same_voice}
use Rattle.keepalive_clock.specs.declared.voice.Voice.{Voice}
use Rattle.keepalive_clock.specs.declared.voice.Voice.TheVariants.{Node, Port}
use Rattle.ct_messages.specs.Server.{first_values}
use Rattle.name_server.specs.Registry as registry
use Rattle.name_server.specs.Registry.{Entry, entered, entry_at}
use Rattle.state_change.specs.Watchers.{watcher_at}
use Rattle.state_change.specs.declared.watcher.Watcher.{Watcher}
use Rattle.fab_policy.specs.Changes.{heard_node}
use Rattle.fab_policy.specs.Logins.{NPort}
use Rattle.fab_policy.specs.State.{port_at}
use Rattle.fab_policy.specs.Steps.{fresh}
use Rattle.keepalive_clock.proofs.VoiceLemmas.{voices_same}
use Rattle.fab_roster.specs.Agreement.{Agree, IsHeldBy, SpeaksFor}
use Rattle.fab_roster.specs.Changes.{Grants, IsSize}
use Rattle.fab_roster.specs.Roll.{Roll, live_of, ports_of, roll_of}
use Rattle.fab_roster.specs.declared.roster.Roster.TheInside.{Inside}
use Rattle.fab_roster.proofs.Found.{enode_turned, equal, item_at-key, same, turned, enode_refl}
use Rattle.fab_roster.proofs.Lookups.{port_of_login}
use Rattle.fab_roster.proofs.TablesRead.{absent_watcher, held_same}

-- when a voice was last heard after both voices of a login were
abbrev pub heard_both : ℕ → Login → Voice → Option ℕ → Option ℕ
heard_both now x v before = if same_voice (Port x.address) v then Some now else if same_voice (Node x.enode) v then Some now else before

-- What the calls say of the tables after them.
pub record AfterGrant (now : ℕ) (x : Login) (old new : Inside) : Type 0 where
  pub absent : login_at x.address old.logins.logins ≡ None
  pub server : x.server_size ≡ None
  pub sound_logins : logins.IsSound new.logins
  pub limit : new.logins.limit ≡ old.logins.limit
  pub logins : (b : ℕ) → login_at b new.logins.logins ≡ (if x.address == b then Some x else login_at b old.logins.logins)
  pub past : new.pool ≡ pool.taken old.pool x.address x.name
  pub addresses : pool.HoldsAddress x.address x.name old.pool new.pool
  pub places : pool.addresses new.pool ≡ pool.addresses old.pool
  pub limits : KeepsLimits old.voices new.voices
  pub voices : (v : Voice) → last_of v new.voices.voices ≡ heard_both now x v (last_of v old.voices.voices)
  pub entry_room : new.registry.room ≡ old.registry.room
  pub entries : (b : ℕ) → entry_at b new.registry.entries ≡ (if x.address == b then Some (entered x.address x.node) else entry_at b old.registry.entries)
  pub sound_voices : clocks.IsSound new.voices
  pub sound_entries : registry.IsSound new.registry

-- the tables after them
abbrev pub granted : Inside → Inside → Inside
granted old new = record old { pool = new.pool; logins = new.logins; voices = new.voices; registry = new.registry }

module _ {now : ℕ} {x : Login} {old new : Inside} (agree : Agree old) (s : AfterGrant now x old new) where
  -- a login that was there is at another address
  other : (b : ℕ) (l : Login) → login_at b old.logins.logins ≡ Some l → x.address == b ≡ false
  other b l e = grind (arith, nat_tests, s.absent, e)

  -- so it stays
  stays : (b : ℕ) (l : Login) → login_at b old.logins.logins ≡ Some l → login_at b new.logins.logins ≡ Some l
  stays b l e = s.logins b ∙ (ap (λ c. if c then Some x else login_at b old.logins.logins) (other b l e) ∙ e)

  -- the new one is there
  new_at : login_at x.address new.logins.logins ≡ Some x
  new_at = s.logins x.address ∙ ap (λ c. if c then Some x else login_at x.address old.logins.logins) (same x.address)

  -- ---- voices

  node_now : last_of (Node x.enode) new.voices.voices ≡ Some now
  node_now = s.voices (Node x.enode) ∙ ap (λ c. if c then Some now else last_of (Node x.enode) old.voices.voices) (enode_refl x.enode)

  port_now : last_of (Port x.address) new.voices.voices ≡ Some now
  port_now = s.voices (Port x.address) ∙ ap (λ c. if c then Some now else last_of (Port x.address) old.voices.voices) (same x.address)

  there_still : (v : Voice) → IsSome (last_of v old.voices.voices) → IsSome (last_of v new.voices.voices)
  there_still v h = grind (arith, nat_tests, s.voices v, h)

  voices_after : (v : Voice) → IsSome (last_of v new.voices.voices) → (l : Login) × (login_at l.address new.logins.logins ≡ Some l) × SpeaksFor v l
  voices_after v h = go (same_voice (Port x.address) v) refl (same_voice (Node x.enode) v) refl (subst (λ o. IsSome o) (s.voices v) h)
    where
      go : (b : Bool) → same_voice (Port x.address) v ≡ b → (c : Bool) → same_voice (Node x.enode) v ≡ c → IsSome (if b then Some now else if c then Some now else last_of v old.voices.voices) →
          (l : Login) × (login_at l.address new.logins.logins ≡ Some l) × SpeaksFor v l
      go true e c f i = (x, new_at, subst (λ u. SpeaksFor u x) (voices_same.equal (Port x.address) v e) refl)
      go false e true f i = (x, new_at, subst (λ u. SpeaksFor u x) (voices_same.equal (Node x.enode) v f) (enode_refl x.enode))
      go false e false f i = let g = agree.voices.speak v i in (g.0, stays g.0.address g.0 g.1, g.2)

  -- ---- each login stands in each table

  entry_new : entry_at x.address new.registry.entries ≡ Some (entered x.address x.node)
  entry_new = s.entries x.address ∙ ap (λ c. if c then Some (entered x.address x.node) else entry_at x.address old.registry.entries) (same x.address)

  entry_stays : (b : ℕ) → x.address == b ≡ false → entry_at b new.registry.entries ≡ entry_at b old.registry.entries
  entry_stays b e = s.entries b ∙ ap (λ c. if c then Some (entered x.address x.node) else entry_at b old.registry.entries) e

  -- what holds of the new one, and of each other that was there, holds of all
  each_after : (P : Login → Type 0) → P x → ((b : ℕ) (l : Login) → x.address == b ≡ false → login_at b old.logins.logins ≡ Some l → P l) → (b : ℕ) (l : Login) → login_at b new.logins.logins ≡ Some l → P l
  each_after P this each b l e = go (x.address == b) refl (sym (s.logins b) ∙ e)
    where
      go : (c : Bool) → x.address == b ≡ c → (if c then Some x else login_at b old.logins.logins) ≡ Some l → P l
      go true f i = let is : x ≡ l = cc in subst P is this
      go false f i = each b l f i

  entry_known : (b : ℕ) (l : Login) → x.address == b ≡ false → login_at b old.logins.logins ≡ Some l → (e : Entry) × (entry_at l.address new.registry.entries ≡ Some e) × (e.node ≡ l.node)
  entry_known b l f i =
      let n = agree.entries.known b l i in
      (n.0, entry_stays l.address (ap (λ a. x.address == a) (item_at-key address_of b old.logins.logins l i) ∙ f) ∙ n.1, n.2)

  entries_after : (b : ℕ) → IsSome (entry_at b new.registry.entries) → IsSome (login_at b new.logins.logins)
  entries_after b h = grind (arith, nat_tests, s.logins b, s.entries b, h, λ (there : IsSome (entry_at b old.registry.entries)). agree.entries.only b there)

  watchers_after : (b : ℕ) (y : Watcher) → watcher_at b old.watchers.watchers ≡ Some y → (l : Login) × (login_at b new.logins.logins ≡ Some l) × (y.name ≡ l.name)
  watchers_after b y e = let f = agree.watchers.known b y e in (f.0, stays b f.0 f.1, f.2)

  -- ---- the addresses of the pool

  held_after : (b : ℕ) → IsHeldBy b new.pool (login_at b new.logins.logins)
  held_after b = go (x.address == b) refl
    where
      go : (c : Bool) → x.address == b ≡ c → IsHeldBy b new.pool (login_at b new.logins.logins)
      go true f =
          let past : past_at b new.pool ≡ Some (pool.held x.address x.name) = s.addresses b ∙ ap (λ c. if c then Some (pool.held x.address x.name) else past_at b old.pool) f in
          subst (λ o. IsHeldBy b new.pool o) (sym (s.logins b ∙ ap (λ c. if c then Some x else login_at b old.logins.logins) f))
          (past ∙ ap (λ a. Some (pool.held a x.name)) (equal x.address b f))
      go false f =
          let past : past_at b new.pool ≡ past_at b old.pool = s.addresses b ∙ ap (λ c. if c then Some (pool.held x.address x.name) else past_at b old.pool) f in
          subst (λ o. IsHeldBy b new.pool o) (sym (s.logins b ∙ ap (λ c. if c then Some x else login_at b old.logins.logins) f))
          (held_same b old.pool new.pool (login_at b old.logins.logins) past (agree.pool.held b))

  ends_order : pool.AreEndedBy (unwrap_or old.clock 0) new.pool
  ends_order = subst (λ l. pool.AreEndedBy (unwrap_or old.clock 0) l) (sym s.past)
      (All-map (λ p. IfSome p.ended (λ end. end ≤ unwrap_or old.clock 0)) (λ p. if p.address == x.address then pool.held p.address x.name else p) old.pool
      (λ i d lt. one (slice_index_or old.pool i d) ((slice_index_or old.pool i d).address == x.address) (agree.pool.ended i d lt)))
    where
      one : (p : Past) (b : Bool) → IfSome p.ended (λ end. end ≤ unwrap_or old.clock 0) → IfSome (if b then pool.held p.address x.name else p).ended (λ end. end ≤ unwrap_or old.clock 0)
      one p true h = tt
      one p false h = h

  pub grant_keeps : Agree (granted old new)
  grant_keeps = record {
    logins = record {
      sound = s.sound_logins;
      limit = s.limit ∙ agree.logins.limit;
      sizes = each_after (λ l. IfSome l.server_size IsSize) (subst (λ o. IfSome o IsSize) (sym s.server) tt) (λ b l f i. agree.logins.sizes b l i);
    };
    voices = record {
      sound = s.sound_voices;
      node_period = s.limits.node_period ∙ agree.voices.node_period;
      port_period = s.limits.port_period ∙ agree.voices.port_period;
      room = s.limits.room ∙ agree.voices.room;
      nodes = each_after (λ l. IsSome (last_of (Node l.enode) new.voices.voices)) (ap (λ o. is_some o) node_now) (λ b l f i. there_still (Node l.enode) (agree.voices.nodes b l i));
      ports = each_after (λ l. IsSome (last_of (Port l.address) new.voices.voices)) (ap (λ o. is_some o) port_now) (λ b l f i. there_still (Port l.address) (agree.voices.ports b l i));
      speak = voices_after;
    };
    entries = record {
      sound = s.sound_entries;
      room = s.entry_room ∙ agree.entries.room;
      known = each_after (λ l. (e : Entry) × (entry_at l.address new.registry.entries ≡ Some e) × (e.node ≡ l.node)) (entered x.address x.node, entry_new, refl) entry_known;
      only = entries_after;
    };
    watchers = record { sound = agree.watchers.sound; room = agree.watchers.room; known = watchers_after };
    pool = record { held = held_after; places = s.places ∙ agree.pool.places; ended = ends_order; range = agree.pool.range };
  }

  -- ---- the N_Ports

  abbrev n_port : NPort
  n_port = record { name = x.name; node = x.node; enode = x.enode }

  heard : {o : Option ℕ} → o ≡ Some now → unwrap_or o 0 ≡ now
  heard e = ap (λ o. unwrap_or o 0) e

  -- the new one is fresh
  live_new : live_of (granted old new) x ≡ fresh now x.address n_port
  live_new = cc (
    s.server,
    heard node_now,
    heard port_now,
    ap (λ o. option_map_or (λ (z : Watcher). z.function) o 0) (absent_watcher agree x.address s.absent),
    ap (λ o. option_map_or (λ (z : Entry). z.values) o (first_values x.node)) entry_new,
  )

  -- another is heard with its ENode
  live_other : (b : ℕ) (l : Login) → login_at b old.logins.logins ≡ Some l → live_of (granted old new) l ≡ heard_node x.enode now (live_of old l)
  live_other b l e =
      let apart : x.address == l.address ≡ false = ap (λ a. x.address == a) (item_at-key address_of b old.logins.logins l e) ∙ other b l e in
      grind (arith, nat_tests, apart, ap (λ o. unwrap_or o 0) (s.voices (Node l.enode)), ap (λ o. unwrap_or o 0) (s.voices (Port l.address)), entry_stays l.address apart, enode_turned x.enode l.enode)

  ports_after : (b : ℕ) → port_at b (ports_of (granted old new)) ≡ (if b == x.address then Some (fresh now x.address n_port) else option_map (heard_node x.enode now) (port_at b (ports_of old)))
  ports_after b = port_of_login (granted old new) b
      ∙ (ap (option_map (live_of (granted old new))) (s.logins b ∙ ap (λ c. if c then Some x else login_at b old.logins.logins) (turned x.address b))
      ∙ (out (b == x.address) ∙ ap (λ o. if b == x.address then Some (fresh now x.address n_port) else option_map (heard_node x.enode now) o) (sym (port_of_login old b))))
    where
      each : (o : Option Login) → login_at b old.logins.logins ≡ o → option_map (live_of (granted old new)) o ≡ option_map (heard_node x.enode now) (option_map (live_of old) o)
      each None e = refl
      each (Some l) e = ap (λ p. Some p) (live_other b l e)

      out : (c : Bool) → option_map (live_of (granted old new)) (if c then Some x else login_at b old.logins.logins)
          ≡ (if c then Some (fresh now x.address n_port) else option_map (heard_node x.enode now) (option_map (live_of old) (login_at b old.logins.logins)))
      out true = ap (λ p. Some p) live_new
      out false = each (login_at b old.logins.logins) refl

  pub grant_grants : {R : Roll} → roll_of old ≡ R → old.clock ≡ Some now → Grants x.address n_port R (roll_of (granted old new))
  grant_grants view clock = subst (λ r. Grants x.address n_port r (roll_of (granted old new))) view (record {
    bounds = record { lowest = refl; count = refl; limit = refl; period = refl };
    clock = refl;
    past = s.past;
    ports = λ b. ports_after b
        ∙ ap (λ (o : Option ℕ). if b == x.address then Some (fresh (unwrap_or o 0) x.address n_port) else option_map (heard_node x.enode (unwrap_or o 0)) (port_at b (ports_of old))) (sym clock);
  })
