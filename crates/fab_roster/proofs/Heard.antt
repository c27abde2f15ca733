-- The tables and the N_Ports after a voice was heard that speaks for a login.
use Rattle.std.proofs.Common.{◌≡◌, ℕ, Bool, true, false, Option, Some, None, option_map, IsSome, refl, sym, ap, subst, ◌∙◌, if◌then◌else◌, unwrap_or, arith}
use Rattle.std.proofs.lemmas.Bool.Decides.{nat_tests}
use Rattle.std.specs.List.{list_any}
use Rattle.fab_base.specs.Fabric.{same_enode}
use Rattle.fab_base.specs.declared.values.Enode.{Enode}
use Rattle.fab_policy.specs.Changes.{heard_node, heard_port}
use Rattle.fab_policy.specs.State.{LivePort, now_of, port_at}
use Rattle.keepalive_clock.specs.Clock.{VoiceClock, last_of, HearsVoice, IsSound, KeepsLimits}
use Rattle.keepalive_clock.specs.Voices.{same_voice}
use Rattle.keepalive_clock.specs.declared.voice.Voice.{Voice}
use Rattle.keepalive_clock.specs.declared.voice.Voice.TheVariants.{Node, Port}
use Rattle.login_table.specs.Logins as logins
use Rattle.login_table.specs.Logins.{Logins, login_at}
use Rattle.login_table.specs.declared.login.Login.{Login}
use Rattle.name_server.specs.Registry.{Registrations}
use Rattle.state_change.specs.Watchers.{Watching}
use Rattle.keepalive_clock.proofs.VoiceLemmas.{voices_same}
use Rattle.fab_roster.specs.Agreement.{Agree, SpeaksFor}
use Rattle.fab_roster.specs.Changes.{ChangesPorts}
use Rattle.fab_roster.specs.Roll.{Roll, live_of, ports_of, roll_of}
use Rattle.fab_roster.specs.declared.roster.Roster.TheInside.{Inside}
use Rattle.fab_roster.proofs.Found.{any-item_at, enode_turned}
use Rattle.fab_roster.proofs.Lookups.{any_login, port_of_login}

-- ---- tables that change the N_Ports of a roll alone

module _ (t : Inside) {R : Roll} (view : roll_of t ≡ R) (f : LivePort → LivePort) where
  pub changed_ports : (s : Logins) (k : VoiceClock) (r : Registrations) (w : Watching) → (let now : Inside = record t { logins = s; voices = k; registry = r; watchers = w } in
      ((a : ℕ) → port_at a (ports_of now) ≡ option_map f (port_at a (ports_of t))) → ChangesPorts f R (roll_of now))
  changed_ports s k r w each = subst (λ (x : Roll). ChangesPorts f x (roll_of (record t { logins = s; voices = k; registry = r; watchers = w }))) view (record {
    bounds = record { lowest = refl; count = refl; limit = refl; period = refl };
    clock = refl;
    past = refl;
    ports = each;
  })

  -- logins of which the other tables say other things
  pub each_changed : (k : VoiceClock) (r : Registrations) (w : Watching) → (let now : Inside = record t { voices = k; registry = r; watchers = w } in
      ((a : ℕ) (l : Login) → login_at a t.logins.logins ≡ Some l → live_of now l ≡ f (live_of t l)) → ChangesPorts f R (roll_of now))
  each_changed k r w one = changed_ports t.logins k r w (λ a. port_of_login now a ∙ (go a (login_at a t.logins.logins) refl ∙ ap (option_map f) (sym (port_of_login t a))))
    where
      now : Inside
      now = record t { voices = k; registry = r; watchers = w }

      go : (a : ℕ) (o : Option Login) → login_at a t.logins.logins ≡ o → option_map (live_of now) o ≡ option_map f (option_map (live_of t) o)
      go a None is = refl
      go a (Some l) is = ap (λ p. Some p) (one a l is)

-- ---- a voice that is heard

-- an ENode with a live N_Port has a login
pub speaker : {t : Inside} {R : Roll} (x : Enode) → Agree t → roll_of t ≡ R → list_any (λ (p : LivePort). same_enode p.enode x) R.tables.ports ≡ true →
    (l : Login) × (login_at l.address t.logins.logins ≡ Some l) × (same_enode l.enode x ≡ true)
speaker {t} x agree view there =
    any-item_at logins.address_of (λ l. same_enode l.enode x) 0 t.logins.logins agree.logins.sound.ascending
    (any_login t view (λ p. same_enode p.enode x) (λ l. same_enode l.enode x) (λ l. refl) ∙ there)

module _ (t : Inside) (k : VoiceClock) (now : ℕ) (v : Voice) (last : HearsVoice v now t.voices.voices k.voices) where
  -- a voice that was there is there
  there_still : (u : Voice) → IsSome (last_of u t.voices.voices) → IsSome (last_of u k.voices)
  there_still u h = grind (arith, nat_tests, last u, h)

  pub heard_agrees : Agree t → KeepsLimits t.voices k → IsSound k → (l : Login) → login_at l.address t.logins.logins ≡ Some l → SpeaksFor v l → Agree (record t { voices = k })
  heard_agrees agree limits sound l is speaks = record {
    logins = agree.logins;
    voices = record {
      sound = sound;
      node_period = limits.node_period ∙ agree.voices.node_period;
      port_period = limits.port_period ∙ agree.voices.port_period;
      room = limits.room ∙ agree.voices.room;
      nodes = λ a m e. there_still (Node m.enode) (agree.voices.nodes a m e);
      ports = λ a m e. there_still (Port m.address) (agree.voices.ports a m e);
      speak = λ u h. by_voice u (same_voice v u) refl (subst (λ o. IsSome o) (last u) h);
    };
    entries = agree.entries;
    watchers = agree.watchers;
    pool = agree.pool;
  }
    where
      by_voice : (u : Voice) (b : Bool) → same_voice v u ≡ b → IsSome (if b then Some now else last_of u t.voices.voices) → (m : Login) × (login_at m.address t.logins.logins ≡ Some m) × SpeaksFor u m
      by_voice u true e h = (l, is, subst (λ x. SpeaksFor x l) (voices_same.equal v u e) speaks)
      by_voice u false e h = agree.voices.speak u h

module _ (t : Inside) {R : Roll} (k : VoiceClock) (now : ℕ) (view : roll_of t ≡ R) (clock : t.clock ≡ Some now) where
  -- the N_Ports change by what a voice changes at the clock
  heard_changes : (f : ℕ → LivePort → LivePort) → ((l : Login) → live_of (record t { voices = k }) l ≡ f now (live_of t l)) → ChangesPorts (f (now_of R.tables)) R (roll_of (record t { voices = k }))
  heard_changes f each =
      let at : now ≡ now_of R.tables = ap (λ o. unwrap_or o 0) (sym clock) ∙ ap (λ (r : Roll). now_of r.tables) view in
      subst (λ n. ChangesPorts (f n) R (roll_of (record t { voices = k }))) at (each_changed t view (f now) k t.registry t.watchers (λ a l is. each l))

  pub port_changes : (a : ℕ) → HearsVoice (Port a) now t.voices.voices k.voices → ChangesPorts (heard_port a (now_of R.tables)) R (roll_of (record t { voices = k }))
  port_changes a last = heard_changes (heard_port a) (λ l. grind (arith, nat_tests, ap (λ o. unwrap_or o 0) (last (Node l.enode)), ap (λ o. unwrap_or o 0) (last (Port l.address))))

  pub node_changes : (x : Enode) → HearsVoice (Node x) now t.voices.voices k.voices → ChangesPorts (heard_node x (now_of R.tables)) R (roll_of (record t { voices = k }))
  node_changes x last =
      heard_changes (heard_node x) (λ l. grind (arith, nat_tests, enode_turned x l.enode, ap (λ o. unwrap_or o 0) (last (Node l.enode)), ap (λ o. unwrap_or o 0) (last (Port l.address))))
