-- What is known of an N_Port is what the tables have at its address.
use Rattle.std.proofs.Common.{◌≡◌, ℕ, Option, Some, None, option_map, is_some, unwrap_or, refl, sym, ap, ◌∙◌, ◌&&◌, List, false, is_none}
use Rattle.std.specs.Option.{option_map_or}
use Rattle.fab_base.specs.Fabric.{Past, past_at}
use Rattle.login_table.specs.Logins.{login_at}
use Rattle.login_table.specs.declared.login.Login.{Login}
use Rattle.keepalive_clock.specs.Clock.{last_of}
use Rattle.keepalive_clock.specs.declared.voice.Voice.TheVariants.{Node, Port}
use Rattle.ct_messages.specs.Server.{Values, first_values}
use Rattle.name_server.specs.Registry.{Entry, entry_at}
use Rattle.state_change.specs.Watchers.{watcher_at, function_at}
use Rattle.state_change.specs.declared.watcher.Watcher.{Watcher}
use Rattle.fab_policy.specs.State.{LivePort, port_at}
use Rattle.fab_roster.specs.Agreement.{Agree, IsHeldBy}
use Rattle.fab_roster.specs.Roll.{Roll, live_of, ports_of, roll_of}
use Rattle.fab_roster.specs.declared.roster.Roster.TheInside.{Inside}
use Rattle.fab_roster.proofs.Found.{item_at-key, true_false}
use Rattle.fab_roster.proofs.Lookups.{port_of_login, option_map-map}

-- when an N_Port was last heard, its ENode and itself
abbrev pub heard_of : LivePort → ℕ × ℕ
heard_of p = (p.node_heard, p.port_heard)

-- an address whose past stays is held as before
pub held_same : (a : ℕ) (A B : List Past) (o : Option Login) → past_at a B ≡ past_at a A → IsHeldBy a A o → IsHeldBy a B o
held_same a A B None past h = ap (λ p. option_map_or (λ (q : Past). is_some q.name && is_none q.ended) p false) past ∙ h
held_same a A B (Some l) past h = past ∙ h

module _ {t : Inside} (agree : Agree t) where
  -- ---- values

  absent_entry : (a : ℕ) → login_at a t.logins.logins ≡ None → entry_at a t.registry.entries ≡ None
  absent_entry a none = go (entry_at a t.registry.entries) refl
    where
      go : (o : Option Entry) → entry_at a t.registry.entries ≡ o → o ≡ None
      go None e = refl
      go (Some x) e = absurd (true_false (sym (ap (λ o. is_some o) (sym none) ∙ agree.entries.only a (ap (λ o. is_some o) e))))

  pub values_there : (a : ℕ) → option_map (λ (p : LivePort). p.values) (port_at a (ports_of t)) ≡ option_map (λ (e : Entry). e.values) (entry_at a t.registry.entries)
  values_there a = ap (λ o. option_map (λ (p : LivePort). p.values) o) (port_of_login t a) ∙ go (login_at a t.logins.logins) refl
    where
      go : (o : Option Login) → login_at a t.logins.logins ≡ o → option_map (λ (p : LivePort). p.values) (option_map (live_of t) o) ≡ option_map (λ (e : Entry). e.values) (entry_at a t.registry.entries)
      go None e = ap (λ o. option_map (λ (x : Entry). x.values) o) (sym (absent_entry a e))
      go (Some l) e =
          let n = agree.entries.known a l e in
          let at : l.address ≡ a = item_at-key (λ (m : Login). m.address) a t.logins.logins l e in
          ap (λ o. Some (option_map_or (λ (x : Entry). x.values) o (first_values l.node))) n.1
          ∙ (ap (λ o. option_map (λ (x : Entry). x.values) o) (sym n.1) ∙ ap (λ b. option_map (λ (x : Entry). x.values) (entry_at b t.registry.entries)) at)

  pub value_there : {R : Roll} → roll_of t ≡ R → {X : Type 0} (f : Values → X) (a : ℕ) → option_map (λ (e : Entry). f e.values) (entry_at a t.registry.entries) ≡ option_map (λ (p : LivePort). f p.values) (port_at a R.tables.ports)
  value_there view f a =
      sym (option_map-map f (λ (e : Entry). e.values) (entry_at a t.registry.entries))
      ∙ (ap (λ o. option_map f o) (sym (values_there a)) ∙ (option_map-map f (λ (p : LivePort). p.values) (port_at a (ports_of t))
      ∙ ap (λ (r : Roll). option_map (λ (p : LivePort). f p.values) (port_at a r.tables.ports)) view))

  -- ---- watchers

  pub absent_watcher : (a : ℕ) → login_at a t.logins.logins ≡ None → watcher_at a t.watchers.watchers ≡ None
  absent_watcher a none = go (watcher_at a t.watchers.watchers) refl
    where
      go : (o : Option Watcher) → watcher_at a t.watchers.watchers ≡ o → o ≡ None
      go None e = refl
      go (Some x) e = let f = (agree.watchers.known a x e).1 in cc

  pub watch_there : {R : Roll} → roll_of t ≡ R → (a : ℕ) → function_at a t.watchers.watchers ≡ option_map_or (λ (p : LivePort). p.watch) (port_at a R.tables.ports) 0
  watch_there view a =
      go (login_at a t.logins.logins) refl
      ∙ (ap (λ o. option_map_or (λ (p : LivePort). p.watch) o 0) (sym (port_of_login t a)) ∙ ap (λ (r : Roll). option_map_or (λ (p : LivePort). p.watch) (port_at a r.tables.ports) 0) view)
    where
      go : (o : Option Login) → login_at a t.logins.logins ≡ o → function_at a t.watchers.watchers ≡ option_map_or (λ (p : LivePort). p.watch) (option_map (live_of t) o) 0
      go None e = ap (λ o. option_map_or (λ (x : Watcher). x.function) o 0) (absent_watcher a e)
      go (Some l) e = ap (λ b. function_at b t.watchers.watchers) (sym (item_at-key (λ (m : Login). m.address) a t.logins.logins l e))

  -- ---- voices

  pub heard_there : {R : Roll} → roll_of t ≡ R → (a n p : ℕ) (l : Login) → login_at a t.logins.logins ≡ Some l → last_of (Node l.enode) t.voices.voices ≡ Some n → last_of (Port a) t.voices.voices ≡ Some p →
      (let m : ℕ × ℕ = (n, p) in Some m ≡ option_map heard_of (port_at a R.tables.ports))
  heard_there view a n p l e node port =
      let at : l.address ≡ a = item_at-key (λ (m : Login). m.address) a t.logins.logins l e in
      let made : Option ℕ → Option ℕ → Option (ℕ × ℕ) = λ x y. Some (unwrap_or x 0, unwrap_or y 0) in
      sym (sym (ap (λ (r : Roll). option_map heard_of (port_at a r.tables.ports)) view) ∙ ap (λ o. option_map heard_of o) (port_of_login t a ∙ ap (λ o. option_map (live_of t) o) e)
      ∙ (ap (λ o. made o (last_of (Port l.address) t.voices.voices)) node
      ∙ ap (λ o. made (Some n) o) (ap (λ b. last_of (Port b) t.voices.voices) at ∙ port)))

  -- both voices of a login are there
  pub node_there : (a : ℕ) (l : Login) → login_at a t.logins.logins ≡ Some l → last_of (Node l.enode) t.voices.voices ≡ None → ⊥
  node_there a l e none = true_false (sym (agree.voices.nodes a l e) ∙ ap (λ o. is_some o) none)

  pub port_there : (a : ℕ) (l : Login) → login_at a t.logins.logins ≡ Some l → last_of (Port a) t.voices.voices ≡ None → ⊥
  port_there a l e none =
      let at : l.address ≡ a = item_at-key (λ (m : Login). m.address) a t.logins.logins l e in
      true_false (sym (agree.voices.ports a l e) ∙ ap (λ o. is_some o) (ap (λ b. last_of (Port b) t.voices.voices) at ∙ none))
