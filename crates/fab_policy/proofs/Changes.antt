-- What frames do to the tables, address by address.
use Rattle.std.proofs.Common.{◌≡◌, ℕ, ◌==◌, ◌&&◌, Bool, true, false, List, [], ◌∷◌, map, Option, Some, None, option_map, option_and_then, refl, sym, ap, subst, ◌∙◌, arith, if◌then◌else◌, unwrap_or, is_none, is_some}
use Rattle.std.proofs.lemmas.Bool.{eqb-true}
use Rattle.fab_base.specs.Fabric.{Past, same_enode}
use Rattle.fab_base.specs.declared.values.Caught.{Caught}
use Rattle.fab_base.specs.declared.values.Enode.{Enode}
use Rattle.els_messages.specs.Els.{receive_size}
use Rattle.ct_messages.specs.Server.{Values, is_registration}
use Rattle.ct_messages.specs.Server as server
use Rattle.fab_policy.specs.Changes.{ChangesAreAfter, PortsStay, CanStay, FrameSteps, LogoutSteps, GrantPorts, GrantPast, GrantSteps, stays_as, leaves_logins, heard_node, holder_of, ended_at, granted_to, left_by, now_after}
use Rattle.heard_frames.specs.Heard.{sender, is_flogi, s_id, ask_of, asked}
use Rattle.fab_policy.specs.Logins.{grants, ends, n_port}
use Rattle.fab_policy.specs.State.{LivePort, port_at, now_of}
use Rattle.fab_policy.specs.Steps.{fresh, touched, values_after, port_after, past_after}
use Rattle.fab_policy.specs.declared.event.Event.{Event}
use Rattle.fab_policy.specs.declared.event.Event.TheVariants.{Frame}
use Rattle.fab_policy.specs.declared.verdict.Verdict.{Verdict}
use Rattle.fab_policy.specs.declared.verdict.Verdict.TheVariants.{Granted, Logout, AliveNode, AlivePort, NsLogin, NsLogout, Watching, Registered}
use Rattle.fab_policy.proofs.Steps.{same_tables}
use Rattle.fab_policy.proofs.Found.{found_address, found_by_address}
use Rattle.fab_policy.proofs.RegistryFits.{by_ask}
use Rattle.fab_policy.proofs.Ticks.{values_kept, map_same}

pub changes_are_after : ChangesAreAfter
changes_are_after c e T U h = same_tables h.clock
    (found_by_address c U.ports (λ a. port_after (now_after T e) a e (port_at a T.ports)) h.ascending (λ a l r. h.ports a)) h.past

-- ---- an N_Port that stays

abbrev with_server_of : LivePort → Option ℕ → LivePort
with_server_of p x = record p { server = x }

abbrev with_node : LivePort → ℕ → LivePort
with_node p x = record p { node_heard = x }

abbrev with_port : LivePort → ℕ → LivePort
with_port p x = record p { port_heard = x }

abbrev with_watch_of : LivePort → ℕ → LivePort
with_watch_of p x = record p { watch = x }

abbrev with_values_of : LivePort → Values → LivePort
with_values_of p x = record p { values = x }

-- an N_Port whose values stay
kept : (f : Values → LivePort) (p : LivePort) → f (values_after p.node None p.values) ≡ f p.values
kept f p = ap f (values_kept p.node p.values)

pub ports_stay : PortsStay
ports_stay at port index caught AliveNode p can = kept (λ v. record p { values = v; node_heard = if same_enode p.enode (sender port caught) then at else p.node_heard }) p ∙ go (same_enode p.enode (sender port caught))
  where
    go : (b : Bool) → with_node p (if b then at else p.node_heard) ≡ (if b then with_node p at else p)
    go true = refl
    go false = refl
ports_stay at port index caught (AlivePort a) p can = kept (λ v. record p { values = v; port_heard = if p.address == a then at else p.port_heard }) p ∙ go (p.address == a)
  where
    go : (b : Bool) → with_port p (if b then at else p.port_heard) ≡ (if b then with_port p at else p)
    go true = refl
    go false = refl
ports_stay at port index caught NsLogin p can =
    kept (λ v. record p { values = v; server = unwrap_or (if p.address == s_id caught then Some (Some (receive_size (asked caught))) else None) p.server }) p ∙ go (p.address == s_id caught)
  where
    go : (b : Bool) → with_server_of p (unwrap_or (if b then Some (Some (receive_size (asked caught))) else None) p.server) ≡ (if b then with_server_of p (Some (receive_size (asked caught))) else p)
    go true = refl
    go false = refl
ports_stay at port index caught NsLogout p can =
    kept (λ v. record p { values = v; server = unwrap_or (if p.address == s_id caught then Some None else None) p.server }) p ∙ go (p.address == s_id caught)
  where
    go : (b : Bool) → with_server_of p (unwrap_or (if b then Some None else None) p.server) ≡ (if b then with_server_of p None else p)
    go true = refl
    go false = refl
ports_stay at port index caught (Watching f) p can =
    kept (λ v. record p { values = v; watch = unwrap_or (if p.address == s_id caught then Some (if f == 255 then 0 else f) else None) p.watch }) p ∙ go (p.address == s_id caught)
  where
    go : (b : Bool) → with_watch_of p (unwrap_or (if b then Some (if f == 255 then 0 else f) else None) p.watch) ≡ (if b then with_watch_of p (if f == 255 then 0 else f) else p)
    go true = refl
    go false = refl
ports_stay at port index caught Registered p can = go (p.address == s_id caught)
  where
    go : (b : Bool) → with_values_of p (values_after p.node (if b then Some (ask_of caught) else None) p.values) ≡ (if b then with_values_of p (server.after p.node (ask_of caught) p.values) else p)
    go true = ap (with_values_of p) (by_ask p.node (ask_of caught) p.values can.0 can.1 can.2)
    go false = ap (with_values_of p) (values_kept p.node p.values)
ports_stay at port index caught (Granted a) p can =
    kept (λ v. record p { values = v; node_heard = if same_enode p.enode (sender port caught) then at else p.node_heard; port_heard = if p.address == a then at else p.port_heard }) p
    ∙ ap (λ b. record p { node_heard = if same_enode p.enode (sender port caught) then at else p.node_heard; port_heard = if b then at else p.port_heard }) can
    ∙ go (same_enode p.enode (sender port caught))
  where
    go : (b : Bool) → with_node p (if b then at else p.node_heard) ≡ (if b then with_node p at else p)
    go true = refl
    go false = refl
ports_stay at port index caught _ p can = kept (with_values_of p) p

-- ---- frames that grant and end nothing

no_grant : (port index a : ℕ) (caught : Caught) (v : Verdict) → leaves_logins v ≡ true → grants a (Frame port index caught v) ≡ false
no_grant port index a caught (Granted b) h = cc
no_grant port index a caught _ h = refl

no_end : (port index a : ℕ) (x : Enode) (caught : Caught) (v : Verdict) → leaves_logins v ≡ true → ends a x (Frame port index caught v) ≡ false
no_end port index a x caught (Granted b) h = cc
no_end port index a x caught (Logout b) h = cc
no_end port index a x caught _ h = refl

port_stays : (at port index a : ℕ) (caught : Caught) (v : Verdict) (o : Option LivePort) → leaves_logins v ≡ true → ((p : LivePort) → o ≡ Some p → p.address ≡ a) → ((p : LivePort) → o ≡ Some p → CanStay caught v p) →
    option_map (stays_as at port caught v) o ≡ port_after at a (Frame port index caught v) o
port_stays at port index a caught v o h is can =
    each o is can
    ∙ sym (ap (λ b. if b then Some (fresh at a (n_port (Frame port index caught v))) else option_and_then (λ p. if ends a p.enode (Frame port index caught v) then None else Some (touched at a (Frame port index caught v) p)) o)
    (no_grant port index a caught v h))
  where
    each : (o : Option LivePort) → ((p : LivePort) → o ≡ Some p → p.address ≡ a) → ((p : LivePort) → o ≡ Some p → CanStay caught v p) →
        option_map (stays_as at port caught v) o ≡ option_and_then (λ p. if ends a p.enode (Frame port index caught v) then None else Some (touched at a (Frame port index caught v) p)) o
    each None is can = refl
    each (Some p) is can =
        subst (λ y. Some (stays_as at port caught v p) ≡ Some (touched at y (Frame port index caught v) p)) (is p refl) (ap (λ q. Some q) (sym (ports_stay at port index caught v p (can p refl))))
        ∙ ap (λ b. if b then None else Some (touched at a (Frame port index caught v) p)) (sym (no_end port index a p.enode caught v h))

past_stays : (at port index : ℕ) (caught : Caught) (v : Verdict) (o : Option Enode) (p : Past) → leaves_logins v ≡ true → p ≡ past_after at p.address (Frame port index caught v) o p
past_stays at port index caught v o p h =
    each o
    ∙ sym (ap (λ b. if b then record { address = p.address; name = Some (n_port (Frame port index caught v)).name; ended = None } else
    unwrap_or (option_map (λ x. if ends p.address x (Frame port index caught v) then record { address = p.address; name = p.name; ended = Some at } else p) o) p) (no_grant port index p.address caught v h))
  where
    each : (o : Option Enode) → p ≡ unwrap_or (option_map (λ x. if ends p.address x (Frame port index caught v) then record { address = p.address; name = p.name; ended = Some at } else p) o) p
    each None = refl
    each (Some x) = ap (λ b. if b then record { address = p.address; name = p.name; ended = Some at } else p) (sym (no_end port index p.address x caught v h))

map_self : (f : Past → Past) → ((p : Past) → p ≡ f p) → (l : List Past) → l ≡ map f l
map_self f h [] = refl
map_self f h (p ∷ l) = grind (arith, h p, map_self f h l)

pub frame_steps : FrameSteps
frame_steps c port index caught v T U h can clock asc ports past = changes_are_after c (Frame port index caught v) T U (record {
  clock = clock;
  ascending = asc;
  ports = λ a. ports a ∙ port_stays (now_of T) port index a caught v (port_at a T.ports) h (λ p e. found_address a T.ports p e) (can a);
  past = past ∙ map_self (λ p. past_after (now_of T) p.address (Frame port index caught v) (holder_of p.address T.ports) p)
      (λ p. past_stays (now_of T) port index caught v (holder_of p.address T.ports) p h) T.past;
})

-- ---- a logout

touched_logout : (at port index a : ℕ) (caught : Caught) (p : LivePort) → touched at p.address (Frame port index caught (Logout a)) p ≡ p
touched_logout at port index a caught p = ports_stay at port index caught (Logout a) p tt

logout_port : (at port index a b : ℕ) (caught : Caught) (o : Option LivePort) → ((p : LivePort) → o ≡ Some p → p.address ≡ b) →
    (if b == a then None else o) ≡ port_after at b (Frame port index caught (Logout a)) o
logout_port at port index a b caught None is = go (b == a)
  where
    go : (x : Bool) → (if x then None else None) ≡ (let o : Option LivePort = None in o)
    go true = refl
    go false = refl
logout_port at port index a b caught (Some p) is = go (b == a)
  where
    here : Some p ≡ Some (touched at b (Frame port index caught (Logout a)) p)
    here = subst (λ y. Some p ≡ Some (touched at y (Frame port index caught (Logout a)) p)) (is p refl) (ap (λ q. Some q) (sym (touched_logout at port index a caught p)))

    go : (x : Bool) → (if x then None else Some p) ≡ (if x then None else Some (touched at b (Frame port index caught (Logout a)) p))
    go true = refl
    go false = here

-- the past of an address after a logout: where the address isn't that of a login, nothing ends
logout_past : (at port index a : ℕ) (caught : Caught) (o : Option LivePort) (p : Past) → (p.address == a ≡ true → is_some o ≡ true) →
    ended_at a at p ≡ past_after at p.address (Frame port index caught (Logout a)) (option_map (λ q. q.enode) o) p
logout_past at port index a caught (Some q) p live = refl
logout_past at port index a caught None p live = go (p.address == a) live
  where
    go : (x : Bool) → (x ≡ true → false ≡ true) → (if x then record { address = p.address; name = p.name; ended = Some at } else p) ≡ p
    go true live = absurd (differ (live refl))
      where
        differ : false ≡ true → ⊥
        differ e = cc
    go false live = refl

pub logout_steps : LogoutSteps
logout_steps c port index a caught T U live clock asc ports past = changes_are_after c (Frame port index caught (Logout a)) T U (record {
  clock = clock;
  ascending = asc;
  ports = λ b. ports b ∙ logout_port (now_of T) port index a b caught (port_at b T.ports) (λ p e. found_address b T.ports p e);
  past = past ∙ map_same (ended_at a (now_of T)) (λ p. past_after (now_of T) p.address (Frame port index caught (Logout a)) (holder_of p.address T.ports) p)
      (λ p. logout_past (now_of T) port index a caught (port_at p.address T.ports) p (λ e. subst (λ b. is_some (port_at b T.ports) ≡ true) (sym (eqb-true p.address a e)) live)) T.past;
})

-- ---- a grant

module _ (at port index a b : ℕ) (caught : Caught) where
  abbrev grant : Event
  grant = Frame port index caught (Granted a)

  abbrev left : Option LivePort → Option LivePort
  left o = option_map (heard_node (sender port caught) at) (left_by (is_flogi caught) (sender port caught) o)

  abbrev right : Option LivePort → Option LivePort
  right o = option_and_then (λ p. if ends b p.enode grant then None else Some (touched at b grant p)) o

  apart_same : (o : Option LivePort) → ((p : LivePort) → o ≡ Some p → p.address ≡ b) → b == a ≡ false → left o ≡ right o
  apart_same None is e = refl
  apart_same (Some p) is e = by_end (same_enode p.enode (sender port caught) && is_flogi caught)
    where
      touched_here : Some (heard_node (sender port caught) at p) ≡ Some (touched at b grant p)
      touched_here = subst (λ y. Some (heard_node (sender port caught) at p) ≡ Some (touched at y grant p)) (is p refl)
          (ap (λ q. Some q) (sym (ports_stay at port index caught (Granted a) p (ap (λ y. y == a) (is p refl) ∙ e))))

      by_end : (x : Bool) → option_map (heard_node (sender port caught) at) (if x then None else Some p) ≡ (if x then None else Some (touched at b grant p))
      by_end true = refl
      by_end false = touched_here

  grant_port : (o : Option LivePort) → ((p : LivePort) → o ≡ Some p → p.address ≡ b) → (x : Bool) → b == a ≡ x → (if x then Some (fresh at b (n_port grant)) else left o) ≡ (if x then Some (fresh at b (n_port grant)) else right o)
  grant_port o is true e = refl
  grant_port o is false e = apart_same o is e

pub grant_ports : GrantPorts
grant_ports at port index a b caught o is = grant_port at port index a b caught o is (b == a) refl

pub grant_past : GrantPast
grant_past at port index a caught None p = refl
grant_past at port index a caught (Some q) p = by_end (same_enode q.enode (sender port caught) && is_flogi caught)
  where
    by_end : (x : Bool) →
        granted_to a (n_port (Frame port index caught (Granted a))).name (if is_none (let o : Option LivePort = if x then None else Some q in o) && true then record { address = p.address; name = p.name; ended = Some at } else p)
        ≡ (if p.address == a then record { address = p.address; name = Some (n_port (Frame port index caught (Granted a))).name; ended = None } else if x then record { address = p.address; name = p.name; ended = Some at } else p)
    by_end true = refl
    by_end false = refl

pub grant_steps : GrantSteps
grant_steps c port index a caught T U clock asc ports past = changes_are_after c (Frame port index caught (Granted a)) T U (record {
  clock = clock;
  ascending = asc;
  ports = λ b. ports b ∙ grant_ports (now_of T) port index a b caught (port_at b T.ports) (λ p e. found_address b T.ports p e);
  past = past ∙ map_same _ (λ p. past_after (now_of T) p.address (Frame port index caught (Granted a)) (holder_of p.address T.ports) p)
      (λ p. grant_past (now_of T) port index a caught (port_at p.address T.ports) p) T.past;
})
