-- The tables and the N_Ports of a roll that is made again.
use Rattle.std.proofs.Common.{◌≡◌, ℕ, ◌≤◌, ◌==◌, Bool, true, false, List, map, Option, Some, None, option_map, is_some, is_none, ◌&&◌, IsSome, refl, sym, ap, subst, ◌∙◌, if◌then◌else◌, unwrap_or, arith}
use Rattle.std.proofs.lemmas.Bool.Decides.{nat_tests}
use Rattle.std.specs.Option.{option_map_or}
use Rattle.fab_base.specs.Fabric.{Past, past_at, same_enode}
use Rattle.fab_base.specs.declared.values.Enode.{Enode}
use Rattle.fc_addresses.specs.Pool as pool
use Rattle.fab_policy.specs.Changes.{granted_to, heard_node, heard_port, with_server, with_watch}
use Rattle.fab_policy.specs.Logins.{NPort}
use Rattle.fab_policy.specs.State.{LivePort, now_of, port_at}
use Rattle.fab_policy.specs.Steps.{fresh}
use Rattle.ct_messages.specs.Server.{Values}
use Rattle.keepalive_clock.specs.Clock.{VoiceClock, last_of, HearsVoice, IsSound, KeepsLimits}
use Rattle.keepalive_clock.specs.Voices.{same_voice}
use Rattle.keepalive_clock.specs.declared.voice.Voice.TheVariants.{Node, Port}
use Rattle.login_table.specs.Logins as logins
use Rattle.login_table.specs.Logins.{login_at}
use Rattle.login_table.specs.declared.login.Login.{Login}
use Rattle.fab_roster.specs.Agreement.{Agree, IsHeldBy}
use Rattle.fab_roster.specs.Changes.{ChangesPorts, Grants, KeepsBounds}
use Rattle.fab_roster.specs.Restoring.{Had, Restores, heard_again, port_of, with_kept}
use Rattle.fab_roster.specs.Roll.{Roll, live_of, roll_of}
use Rattle.fab_roster.specs.declared.roster.Roster.TheInside.{Inside}
use Rattle.fab_roster.proofs.Found.{enode_refl, enode_turned, equal, item_at-key, same, true_false}
use Rattle.fab_roster.proofs.Heard.{each_changed, heard_agrees}
use Rattle.fab_roster.proofs.TablesRead.{held_same}

-- ---- an address that a name had

module _ {t : Inside} (agree : Agree t) (a name end : ℕ) (A : List Past) (never : past_at a t.pool ≡ Some (pool.never_had a)) (found : pool.HadAddress a name end t.pool A) where
  -- nobody has it
  no_login : login_at a t.logins.logins ≡ None
  no_login = go (login_at a t.logins.logins) refl
    where
      go : (o : Option Login) → login_at a t.logins.logins ≡ o → o ≡ None
      go None e = refl
      go (Some l) e =
          let held : past_at a t.pool ≡ Some (pool.held a l.name) = subst (λ o. IsHeldBy a t.pool o) e (agree.pool.held a) in
          absurd (true_false (ap (λ o. option_map_or (λ (p : Past). is_some p.name) o false) (sym held ∙ never)))

  held_after : (b : ℕ) → IsHeldBy b A (login_at b t.logins.logins)
  held_after b = go (a == b) refl
    where
      go : (c : Bool) → a == b ≡ c → IsHeldBy b A (login_at b t.logins.logins)
      go true f =
          let none = ap (λ n. login_at n t.logins.logins) (sym (equal a b f)) ∙ no_login in
          let past = found b ∙ ap (λ c. if c then Some (pool.ended_at end (pool.held a name)) else past_at b t.pool) f in
          subst (λ o. IsHeldBy b A o) (sym none) (ap (λ o. option_map_or (λ (p : Past). is_some p.name && is_none p.ended) o false) past)
      go false f = held_same b t.pool A (login_at b t.logins.logins) (found b ∙ ap (λ c. if c then Some (pool.ended_at end (pool.held a name)) else past_at b t.pool) f) (agree.pool.held b)

  pub had_agrees : pool.addresses A ≡ pool.addresses t.pool → pool.AreEndedBy (unwrap_or t.clock 0) A → Agree (record t { pool = A })
  had_agrees places ended = record {
    logins = agree.logins;
    voices = agree.voices;
    entries = agree.entries;
    watchers = agree.watchers;
    pool = record { held = held_after; places = places ∙ agree.pool.places; ended = ended; range = agree.pool.range };
  }

pub had_changes : (t : Inside) {R : Roll} (a name end : ℕ) (A : List Past) → roll_of t ≡ R → pool.HadAddress a name end t.pool A → pool.addresses A ≡ pool.addresses t.pool → Had a name end R (roll_of (record t { pool = A }))
had_changes t a name end A view found places = subst (λ r. Had a name end r (roll_of (record t { pool = A }))) view (record {
  bounds = record { lowest = refl; count = refl; limit = refl; period = refl };
  clock = refl;
  past = found;
  places = places;
  ports = refl;
})

-- ---- both voices of a login

module _ (t : Inside) (k m : VoiceClock) (x : Enode) (a node port : ℕ) (one : HearsVoice (Node x) node t.voices.voices k.voices) (two : HearsVoice (Port a) port k.voices m.voices) where
  pub both_agree : Agree t → KeepsLimits t.voices k → IsSound k → KeepsLimits k m → IsSound m → (l : Login) → login_at a t.logins.logins ≡ Some l → l.enode ≡ x → Agree (record t { voices = m })
  both_agree agree limits sound more also l is enode =
      let at : l.address ≡ a = item_at-key logins.address_of a t.logins.logins l is in
      let there : login_at l.address t.logins.logins ≡ Some l = ap (λ b. login_at b t.logins.logins) at ∙ is in
      heard_agrees (record t { voices = k }) m port (Port a) two
      (heard_agrees t k node (Node x) one agree limits sound l there (subst (λ y. same_enode l.enode y ≡ true) enode (enode_refl l.enode)))
      more also l there at

  pub both_change : {R : Roll} → roll_of t ≡ R → ChangesPorts (heard_again a x node port) R (roll_of (record t { voices = m }))
  both_change view = each_changed t view (heard_again a x node port) m t.registry t.watchers (λ b l is.
      grind (
        arith,
        nat_tests,
        enode_turned x l.enode,
        ap (λ o. unwrap_or o 0) (two (Node l.enode) ∙ ap (λ o. if same_voice (Port a) (Node l.enode) then Some port else o) (one (Node l.enode))),
        ap (λ o. unwrap_or o 0) (two (Port l.address) ∙ ap (λ o. if same_voice (Port a) (Port l.address) then Some port else o) (one (Port l.address))),
      ))

-- ---- an N_Port that is there again

abbrev pub n_port_of : Login → NPort
n_port_of l = record { name = l.name; node = l.node; enode = l.enode }

-- the address is live from the grant on
pub granted_there : (l : Login) {A B : Roll} → Grants l.address (n_port_of l) A B → port_at l.address B.tables.ports ≡ Some (fresh (now_of A.tables) l.address (n_port_of l))
granted_there l {A} granted =
    granted.ports l.address ∙ ap (λ c. if c then Some (fresh (now_of A.tables) l.address (n_port_of l)) else option_map (heard_node l.enode (now_of A.tables)) (port_at l.address A.tables.ports)) (same l.address)

module _ (l : Login) (node port watch f : ℕ) (values : Values) (asks : (if f == 255 then 0 else f) ≡ watch) where
  abbrev changed : LivePort → LivePort
  changed p = with_kept l.address values (with_watch l.address f (with_server l.address l.server_size (heard_again l.address l.enode node port p)))

  -- what is granted becomes what it was
  changed_fresh : (now : ℕ) → changed (fresh now l.address (n_port_of l)) ≡ port_of l node port watch values
  changed_fresh now = grind (arith, nat_tests, same l.address, enode_refl l.enode, asks)

  -- another is heard with its ENode
  changed_other : (now b : ℕ) (p : LivePort) → p.address ≡ b → b == l.address ≡ false → changed (heard_node l.enode now p) ≡ heard_node l.enode node p
  changed_other now b p at apart = go (same_enode p.enode l.enode) refl
    where
      apart_here : p.address == l.address ≡ false
      apart_here = ap (λ n. n == l.address) at ∙ apart

      go : (c : Bool) → same_enode p.enode l.enode ≡ c → changed (heard_node l.enode now p) ≡ heard_node l.enode node p
      go true e = grind (arith, nat_tests, e, apart_here)
      go false e = grind (arith, nat_tests, e, apart_here)

  module _ {A B C D E F : Roll} (granted : Grants l.address (n_port_of l) A B) (both : ChangesPorts (heard_again l.address l.enode node port) B C) (served : ChangesPorts (with_server l.address l.server_size) C D)
      (watched : ChangesPorts (with_watch l.address f) D E) (kept : ChangesPorts (with_kept l.address values) E F) where
    bounds : KeepsBounds A F
    bounds = record {
      lowest = kept.bounds.lowest ∙ watched.bounds.lowest ∙ served.bounds.lowest ∙ both.bounds.lowest ∙ granted.bounds.lowest;
      count = kept.bounds.count ∙ watched.bounds.count ∙ served.bounds.count ∙ both.bounds.count ∙ granted.bounds.count;
      limit = kept.bounds.limit ∙ watched.bounds.limit ∙ served.bounds.limit ∙ both.bounds.limit ∙ granted.bounds.limit;
      period = kept.bounds.period ∙ watched.bounds.period ∙ served.bounds.period ∙ both.bounds.period ∙ granted.bounds.period;
    }

    -- each N_Port after all that comes behind the grant
    behind : (b : ℕ) → port_at b F.tables.ports ≡ option_map changed (port_at b B.tables.ports)
    behind b =
        kept.ports b
        ∙ ap (option_map (with_kept l.address values)) (watched.ports b
        ∙ ap (option_map (with_watch l.address f)) (served.ports b
        ∙ ap (option_map (with_server l.address l.server_size)) (both.ports b)))
        ∙ fuse (port_at b B.tables.ports)
      where
        fuse : (o : Option LivePort) → option_map (with_kept l.address values) (option_map (with_watch l.address f) (option_map (with_server l.address l.server_size) (option_map (heard_again l.address l.enode node port) o)))
            ≡ option_map changed o
        fuse None = refl
        fuse (Some p) = refl

    ports : (b : ℕ) → port_at b F.tables.ports ≡ (if b == l.address then Some (port_of l node port watch values) else option_map (heard_node l.enode node) (port_at b A.tables.ports))
    ports b = behind b ∙ ap (option_map changed) (granted.ports b) ∙ go (b == l.address) refl (port_at b A.tables.ports) refl
      where
        go : (c : Bool) → b == l.address ≡ c → (o : Option LivePort) → port_at b A.tables.ports ≡ o →
            option_map changed (if c then Some (fresh (now_of A.tables) l.address (n_port_of l)) else option_map (heard_node l.enode (now_of A.tables)) o)
            ≡ (if c then Some (port_of l node port watch values) else option_map (heard_node l.enode node) o)
        go true e o is = ap (λ p. Some p) (changed_fresh (now_of A.tables))
        go false e None is = refl
        go false e (Some p) is = ap (λ q. Some q) (changed_other (now_of A.tables) b p (item_at-key (λ (q : LivePort). q.address) b A.tables.ports p is) e)

    pub restores : Restores (port_of l node port watch values) A F
    restores = record {
      bounds = bounds;
      clock = kept.clock ∙ watched.clock ∙ served.clock ∙ both.clock ∙ granted.clock;
      past = kept.past ∙ watched.past ∙ served.past ∙ both.past ∙ granted.past;
      ports = ports;
    }

-- an address that is live stays so while N_Ports change
pub still_there : {g : LivePort → LivePort} {A B : Roll} (a : ℕ) → ChangesPorts g A B → IsSome (port_at a A.tables.ports) → IsSome (port_at a B.tables.ports)
still_there {g} {A} a changes there = subst (λ o. IsSome o) (sym (changes.ports a)) (go (port_at a A.tables.ports) there)
  where
    go : (o : Option LivePort) → IsSome o → IsSome (option_map g o)
    go None h = h
    go (Some p) h = refl
