-- What N_Ports register: an N_Port as it is entered, and the tables and the N_Ports after a registration.
use Rattle.std.proofs.Common.{◌≡◌, ◌==◌, if◌then◌else◌, ℕ, List, Option, Some, None, option_map, is_some, IsSome, refl, sym, ap, subst, ◌∙◌, arith}
use Rattle.std.proofs.lemmas.Bool.Decides.{nat_tests}
use Rattle.std.specs.Option.{option_map_or}
use Rattle.ct_messages.specs.Ask.{Ask}
use Rattle.ct_messages.specs.Server as server
use Rattle.ct_messages.specs.Server.{Values, first_values, has_changed, registration_refusal}
use Rattle.fab_policy.specs.State.{LivePort, port_at}
use Rattle.login_table.specs.Logins as logins
use Rattle.name_server.specs.Registry as registry
use Rattle.name_server.specs.Registry.{Entry, Registrations, entry_at, refusal, is_noticed}
use Rattle.fab_roster.specs.Agreement.{Agree}
use Rattle.fab_roster.specs.Changes.{ChangesPorts}
use Rattle.fab_roster.specs.Roll.{Roll, live_of, roll_of}
use Rattle.fab_roster.specs.declared.roster.Roster.TheInside.{Inside}
use Rattle.fab_roster.proofs.Found.{item_at-key}
use Rattle.fab_roster.proofs.Heard.{each_changed}
use Rattle.fab_roster.proofs.Lookups.{login_there, live_there}
use Rattle.fab_roster.proofs.Served.{some_same}

-- An N_Port as it is entered.
pub record IsEntered (a : ℕ) (R : List Entry) (p : LivePort) : Type 0 where
  pub entry : Entry
  pub found : entry_at a R ≡ Some entry
  pub address : entry.address ≡ p.address
  pub node : entry.node ≡ p.node
  pub values : entry.values ≡ p.values

-- an entry and an N_Port whose values change so, by the node name of its login, if it has this address
abbrev pub revalued_entry : ℕ → (ℕ → Values → Values) → Entry → Entry
revalued_entry a f e = if e.address == a then record e { values = f e.node e.values } else e

abbrev pub revalued_port : ℕ → (ℕ → Values → Values) → LivePort → LivePort
revalued_port a f p = if p.address == a then record p { values = f p.node p.values } else p

module _ {t : Inside} (agree : Agree t) where
  module _ {R : Roll} (view : roll_of t ≡ R) (a : ℕ) (p : LivePort) (is : port_at a R.tables.ports ≡ Some p) where
    pub entered : IsEntered a t.registry.entries p
    entered =
        let here = ap (λ (r : Roll). port_at a r.tables.ports) view ∙ is in
        let f = login_there t view a (ap (λ o. is_some o) is) in
        let n = agree.entries.known a f.0 f.1 in
        subst (λ (q : LivePort). IsEntered a t.registry.entries q)
        (some_same (live_of t f.0) p (sym (live_there t a f.0 f.1) ∙ here))
        (record {
          entry = n.0;
          found = subst (λ (b : ℕ). entry_at b t.registry.entries ≡ Some n.0) (item_at-key logins.address_of a t.logins.logins f.0 f.1) n.1;
          address = item_at-key registry.address_of f.0.address t.registry.entries n.0 n.1;
          node = n.2;
          values = sym (ap (λ o. option_map_or (λ (x : Entry). x.values) o (first_values f.0.node)) n.1);
        })

    -- why a registration is refused, and whether it is noticed, is the same of the entry and of the N_Port
    pub refusal_here : (ask : Ask) → refusal ask (entry_at a t.registry.entries) ≡ registration_refusal p.address p.values.node_name ask
    refusal_here ask =
        ap (λ o. refusal ask o) entered.found
        ∙ (ap (λ b. registration_refusal b entered.entry.values.node_name ask) entered.address ∙ ap (λ (v : Values). registration_refusal p.address v.node_name ask) entered.values)

    pub noticed_here : (ask : Ask) → is_noticed ask (entry_at a t.registry.entries) ≡ has_changed p.values (server.after p.node ask p.values)
    noticed_here ask =
        let n = entered in
        ap (λ o. is_noticed ask o) n.found
        ∙ (ap (λ b. has_changed n.entry.values (server.after b ask n.entry.values)) n.node ∙ ap (λ (v : Values). has_changed v (server.after p.node ask v)) n.values)

  -- the values of an address change, by the node name of its login
  module _ (r : Registrations) (a : ℕ) (f : ℕ → Values → Values) (found : (b : ℕ) → entry_at b r.entries ≡ option_map (revalued_entry a f) (entry_at b t.registry.entries)) where
    same_node : (e : Entry) → (revalued_entry a f e).node ≡ e.node
    same_node e = grind (arith, nat_tests)

    was_entered : (b : ℕ) → IsSome (entry_at b r.entries) → IsSome (entry_at b t.registry.entries)
    was_entered b h = go (entry_at b t.registry.entries) (subst (λ o. IsSome o) (found b) h)
      where
        go : (o : Option Entry) → IsSome (option_map (revalued_entry a f) o) → IsSome o
        go None i = i
        go (Some e) i = refl

    pub values_agree : r.room ≡ t.registry.room → registry.IsSound r → Agree (record t { registry = r })
    values_agree room sound = record {
      logins = agree.logins;
      voices = agree.voices;
      entries = record {
        sound = sound;
        room = room ∙ agree.entries.room;
        known = λ b l e. let n = agree.entries.known b l e in (revalued_entry a f n.0, found l.address ∙ ap (λ o. option_map (revalued_entry a f) o) n.1, same_node n.0 ∙ n.2);
        only = λ b h. agree.entries.only b (was_entered b h);
      };
      watchers = agree.watchers;
      pool = agree.pool;
    }

    pub values_change : {R : Roll} → roll_of t ≡ R → ChangesPorts (revalued_port a f) R (roll_of (record t { registry = r }))
    values_change view = each_changed t view (revalued_port a f) t.voices r t.watchers (λ b l is.
        let n = agree.entries.known b l is in
        let key = item_at-key registry.address_of l.address t.registry.entries n.0 n.1 in
        let values : Option Entry → Values = λ o. option_map_or (λ (x : Entry). x.values) o (first_values l.node) in
        grind (arith, nat_tests, key, n.2, ap values n.1, ap values (found l.address ∙ ap (λ o. option_map (revalued_entry a f) o) n.1)))
