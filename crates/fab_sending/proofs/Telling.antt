-- The state changes of an entry follow from the tables before it.
use Rattle.std.proofs.Common.{◌≡◌, ℕ, ◌+◌, ◌*◌, ◌==◌, ◌&&◌, Bool, true, false, List, [], ◌∷◌, ◌++◌, map, filter, flat_map, Option, Some, None, option_to_list, option_and_then, is_some, IsSome, IsTrue, if◌then◌else◌, refl, sym, ap, subst, ◌∙◌, arith}
use Rattle.std.proofs.lemmas.Bool.{eqb-true}
use Rattle.std.proofs.lemmas.Bool.Decides.{nat_tests}
use Rattle.std.proofs.lemmas.Grind.{flat_map-append}
use Rattle.std.proofs.lemmas.List.{append-nil}
use Rattle.fab_base.proofs.SamenessLemmas.{found_passes}
use Rattle.fab_base.specs.Fabric.{Past, may_have, past_at, same_enode}
use Rattle.fab_base.specs.declared.values.Caught.{Caught}
use Rattle.fab_config.specs.Settings.{Settings}
use Rattle.ct_messages.specs.Server as server
use Rattle.zone_rules.specs.Joined.{contains}
use Rattle.fab_policy.specs.Changes.{PortsStay, TickSteps, now_after}
use Rattle.fab_policy.specs.Free.{is_free, is_open}
use Rattle.heard_frames.specs.Heard.{asked, ask_of, is_flogi, s_id, sender}
use Rattle.fab_policy.specs.Logins.{ends, grants, n_port}
use Rattle.fab_policy.specs.Outputs.{Notice, differs, has_changed, notices, told, told_of, told_of_zones, watchers}
use Rattle.fab_policy.specs.Rules.{joined}
use Rattle.fab_policy.specs.State.{LivePort, Tables, addresses, is_overdue, now_of, overdue, port_at}
use Rattle.fab_policy.specs.Steps.{FoundByAddress, InPool, after, fresh, port_after, touched}
use Rattle.fab_policy.specs.declared.event.Event.{Event}
use Rattle.fab_policy.specs.declared.event.Event.TheVariants.{Tick, Frame}
use Rattle.fab_policy.specs.declared.verdict.Verdict.TheVariants.{Granted, Logout, Registered, Watching}
use Rattle.fab_sending.specs.Laws.{FramesTell, TicksTell}
use Rattle.fab_sending.specs.Notices.{changed_at, ended_by_grant, notices_of_frame, told_of_change, told_of_each, told_of_name}
use Rattle.fab_sending.specs.Sends.{CanFollow, request_from}
use Rattle.fab_policy.proofs.Found.{found_address}
use Rattle.fab_policy.proofs.Steps.{AreAddressed}
use Rattle.fab_roster.proofs.Found.{same as same_number}
use Rattle.fab_sending.proofs.Counting.{told_by_clock}
use Rattle.fab_sending.proofs.Finding.{filter-address, filter-listed, filter-none, found_at, listed_of}
use Rattle.fab_sending.proofs.Lists.{flat_map-same}
use Rattle.fab_sending.proofs.Watching.{Leaves, told_after}

-- what the watchers after an entry are told of N_Ports is what those before it are, but for those that it ends
told_each : FoundByAddress → (c : Settings) (T : Tables) (e : Event) (but : List ℕ) → InPool c T.ports → Leaves T e but → (ports : List LivePort) →
    flat_map (told_of c T (after c T e)) ports ≡ told_of_each c T but ports
told_each found c T e but asc h ports =
    flat_map-same (told_of c T (after c T e)) (λ p. told_of_name c T but p.address p.name)
    (λ p. told_after found c T e but asc h (λ x. joined c T x p.name) p.address) ports

-- ---- a tick

tick_leaves : (T : Tables) (m : ℕ) (ended : List ℕ) → Leaves T (Tick m ended) ended
tick_leaves T m ended = record { calm = λ a. refl; ended = λ a p e. refl; granted = λ a p g e. cc }

-- what changes of zones tell the watchers after a tick, by the clock before it
abbrev told_at_clock : Settings → Tables → ℕ → Option ℕ → List Notice
told_at_clock c U m clock =
    elim clock [
      | None ↦ []
      | Some t ↦ flat_map (λ b. map (λ w. told w b.address) (filter (λ w. differs c t m w.name b.name) (watchers U))) U.ports
    ]

zones_tell : FoundByAddress → TickSteps → (c : Settings) (T : Tables) (m : ℕ) → InPool c T.ports → (clock : Option ℕ) →
    (let ends = addresses (overdue c T m) in told_at_clock c (after c T (Tick m ends)) m clock ≡ told_by_clock c T m ends clock)
zones_tell found steps c T m asc None = refl
zones_tell found steps c T m asc (Some t) =
    let ends : List ℕ = addresses (overdue c T m) in
    let U : Tables = after c T (Tick m ends) in
    flat_map-same (λ b. map (λ w. told w b.address) (filter (λ w. differs c t m w.name b.name) (watchers U))) (told_of_change c T t m ends)
    (λ b. told_after found c T (Tick m ends) ends asc (tick_leaves T m ends) (λ x. differs c t m x b.name) b.address) U.ports
    ∙ ap (flat_map (told_of_change c T t m ends)) (ap (λ V. V.ports) (steps c T m asc))

pub ticks_tell : FoundByAddress → TickSteps → TicksTell
unfolding notices
ticks_tell found steps c T m asc =
    let ends : List ℕ = addresses (overdue c T m) in
    let e : Event = Tick m ends in
    ap (λ ps. flat_map (told_of c T (after c T e)) ps ++ told_of_zones c T (after c T e) e)
    (append-nil (filter (λ p. contains p.address ends) T.ports ++ []) ∙ append-nil (filter (λ p. contains p.address ends) T.ports) ∙ filter-listed (is_overdue c m) (c.domain * 65536 + 256) T.ports asc.0)
    ∙ ap (λ ns. ns ++ told_of_zones c T (after c T e) e) (told_each found c T e ends asc (tick_leaves T m ends) (overdue c T m))
    ∙ ap (λ ns. told_of_each c T ends (overdue c T m) ++ ns) (zones_tell found steps c T m asc T.clock)

-- ---- a frame

-- what a frame tells: of these logins that it ends, of these others, and of no zones
of_frame : FoundByAddress → (c : Settings) (T : Tables) (e : Event) (but : List ℕ) → InPool c T.ports → Leaves T e but → (ended others : List LivePort) →
    flat_map (told_of c T (after c T e)) (ended ++ others) ++ [] ≡ told_of_each c T but ended ++ told_of_each c T but others
of_frame found c T e but asc h ended others =
    append-nil (flat_map (told_of c T (after c T e)) (ended ++ others))
    ∙ flat_map-append (told_of c T (after c T e)) ended others
    ∙ ap (λ ns. ns ++ flat_map (told_of c T (after c T e)) others) (told_each found c T e but asc h ended)
    ∙ ap (λ ns. told_of_each c T but ended ++ ns) (told_each found c T e but asc h others)

-- ---- the N_Port of an address after an entry

abbrev after_at : Tables → Event → ℕ → Option LivePort
after_at T e a = port_after (now_after T e) a e (port_at a T.ports)

same_address : (x p : LivePort) → Some x ≡ Some p → p.address ≡ x.address
same_address x p e = let same : x ≡ p = cc in ap (λ y. y.address) (sym same)

after_addressed : (T : Tables) (e : Event) → AreAddressed (after_at T e)
after_addressed T e a p is = by_grant (grants a e) (port_at a T.ports) is
  where
    by_end : (b : Bool) (q : LivePort) → (if b then None else Some (touched (now_after T e) a e q)) ≡ Some p → p.address ≡ a
    by_end true q i = cc
    by_end false q i = same_address (touched (now_after T e) a e q) p i

    by_grant : (g : Bool) (o : Option LivePort) → (if g then Some (fresh (now_after T e) a (n_port e)) else option_and_then (λ q. if ends a q.enode e then None else Some (touched (now_after T e) a e q)) o) ≡ Some p → p.address ≡ a
    by_grant true o i = same_address (fresh (now_after T e) a (n_port e)) p i
    by_grant false None i = cc
    by_grant false (Some q) i = by_end (ends a q.enode e) q i

-- a granted address that is live after its grant is the fresh one
granted_at : (c : Settings) (T : Tables) (port index a : ℕ) (caught : Caught) → (let e = Frame port index caught (Granted a) in
    IsSome (port_at a (after c T e).ports) → port_at a (after c T e).ports ≡ Some (fresh (now_after T e) a (n_port e)))
granted_at c T port index a caught live =
    let e : Event = Frame port index caught (Granted a) in
    found_at (after_at T e) (after_at T e) (after_addressed T e) (after_addressed T e) c.pool (c.domain * 65536 + 256) a live
    ∙ ap (λ b. if b then Some (fresh (now_after T e) a (n_port e)) else option_and_then (λ q. if ends a q.enode e then None else Some (touched (now_after T e) a e q)) (port_at a T.ports)) (same_number a)

-- a live N_Port stays live after a registration
registered_at : FoundByAddress → (c : Settings) (T : Tables) (port index a : ℕ) (caught : Caught) (p : LivePort) → InPool c T.ports → port_at a T.ports ≡ Some p →
    (let e = Frame port index caught Registered in port_at a (after c T e).ports ≡ Some (touched (now_after T e) a e p))
registered_at found c T port index a caught p asc is =
    let e : Event = Frame port index caught Registered in
    found_at (after_at T e) (λ b. port_at b T.ports) (after_addressed T e) (λ b q. found_address b T.ports q) c.pool (c.domain * 65536 + 256) a
    (subst (λ ps. IsSome (port_at a ps)) (found c T.ports (λ b. port_at b T.ports) asc (λ b l r. refl)) (ap is_some is))
    ∙ ap (option_and_then (λ q. Some (touched (now_after T e) a e q))) is

-- ---- frames that tell nothing

silent : (c : Settings) (T U : Tables) → flat_map (told_of c T U) (filter (λ p. false) T.ports ++ [] ++ []) ++ [] ≡ []
silent c T U = ap (λ ps. flat_map (told_of c T U) (ps ++ [] ++ []) ++ []) (filter-none T.ports)

-- ---- a logout

one_listed : (a b : ℕ) → contains b (a ∷ []) ≡ b == a
one_listed a b = grind (arith, nat_tests)

logout_leaves : (T : Tables) (port index a : ℕ) (caught : Caught) → Leaves T (Frame port index caught (Logout a)) (a ∷ [])
logout_leaves T port index a caught = record { calm = λ b. refl; ended = λ b p e. one_listed a b; granted = λ b p g e. cc }

logout_tells : FoundByAddress → (c : Settings) (T : Tables) (port index a : ℕ) (caught : Caught) → InPool c T.ports →
    (let e = Frame port index caught (Logout a) in notices c T (after c T e) e ≡ notices_of_frame c T port caught (Logout a))
unfolding notices
logout_tells found c T port index a caught asc =
    let e : Event = Frame port index caught (Logout a) in
    ap (λ ps. flat_map (told_of c T (after c T e)) ps ++ [])
    (append-nil (filter (λ p. p.address == a) T.ports ++ []) ∙ ap (λ ps. ps ++ []) (filter-address (c.domain * 65536 + 256) a T.ports asc.0))
    ∙ of_frame found c T e (a ∷ []) asc (logout_leaves T port index a caught) (option_to_list (port_at a T.ports)) []
    ∙ append-nil (told_of_each c T (a ∷ []) (option_to_list (port_at a T.ports)))

-- ---- a grant

-- an address that is granted and live is one of those that the grant ends
abbrev EndsOrFree : Tables → ℕ → ℕ → Caught → Type 0
EndsOrFree T port a caught = (p : LivePort) → port_at a T.ports ≡ Some p → (same_enode p.enode (sender port caught) && is_flogi caught) ≡ true

-- an address that is free for a request
ends_or_free : (T : Tables) (port a : ℕ) (caught : Caught) → IsTrue (is_free T (request_from port caught) a) → EndsOrFree T port a caught
ends_or_free T port a caught free p live = by_past (past_at a T.past) refl free
  where
    turned : (x y z : Bool) → (x && y && z) ≡ true → (y && x) ≡ true
    turned true true z e = refl
    turned true false z e = cc
    turned false y z e = cc

    by_port : (o : Option LivePort) → o ≡ Some p → (b : Past) →
        elim o as (λ _. Bool) [ Some q ↦ is_flogi caught && same_enode q.enode (sender port caught) && q.name == (asked caught).port_name | None ↦ may_have (asked caught).port_name (now_of T) b.name b.ended ] ≡ true →
        (same_enode p.enode (sender port caught) && is_flogi caught) ≡ true
    by_port None e b t = cc
    by_port (Some q) e b t =
        let same : q ≡ p = cc in
        ap (λ (x : LivePort). same_enode x.enode (sender port caught) && is_flogi caught) (sym same) ∙ turned (is_flogi caught) (same_enode q.enode (sender port caught)) (q.name == (asked caught).port_name) t

    by_past : (o : Option Past) → past_at a T.past ≡ o → elim o as (λ _. Bool) [ None ↦ false | Some b ↦ is_open T (request_from port caught) b ] ≡ true → (same_enode p.enode (sender port caught) && is_flogi caught) ≡ true
    by_past None e t = cc
    by_past (Some b) e t = by_port (port_at b.address T.ports) (ap (λ x. port_at x T.ports) (eqb-true b.address a (found_passes (λ (x : Past). x.address == a) b T.past e)) ∙ live) b t

abbrev goes : ℕ → Caught → LivePort → Bool
goes port caught p = same_enode p.enode (sender port caught) && is_flogi caught

grant_leaves : (c : Settings) (T : Tables) (port index a : ℕ) (caught : Caught) → InPool c T.ports → EndsOrFree T port a caught →
    Leaves T (Frame port index caught (Granted a)) (addresses (ended_by_grant T port caught))
grant_leaves c T port index a caught asc ok = record {
  calm = λ b. refl;
  ended = λ b p e. listed_of (goes port caught) (c.domain * 65536 + 256) b T.ports p asc.0 e;
  granted = λ b p g e. listed_of (goes port caught) (c.domain * 65536 + 256) b T.ports p asc.0 e ∙ ok p (ap (λ x. port_at x T.ports) (sym (eqb-true b a g)) ∙ e);
}

grant_tells : FoundByAddress → (c : Settings) (T : Tables) (port index a : ℕ) (caught : Caught) → InPool c T.ports → EndsOrFree T port a caught →
    (let e = Frame port index caught (Granted a) in
    (q : LivePort) → port_at a (after c T e).ports ≡ Some q → q.address ≡ a → q.name ≡ (asked caught).port_name →
    notices c T (after c T e) e ≡ notices_of_frame c T port caught (Granted a))
unfolding notices
grant_tells found c T port index a caught asc ok q live at named =
    let e : Event = Frame port index caught (Granted a) in
    let ends : List ℕ = addresses (ended_by_grant T port caught) in
    ap (λ o. flat_map (told_of c T (after c T e)) (ended_by_grant T port caught ++ option_to_list o ++ []) ++ []) live
    ∙ ap (λ ps. flat_map (told_of c T (after c T e)) ps ++ []) (append-nil (ended_by_grant T port caught ++ q ∷ []))
    ∙ of_frame found c T e ends asc (grant_leaves c T port index a caught asc ok) (ended_by_grant T port caught) (q ∷ [])
    ∙ ap (λ ns. told_of_each c T ends (ended_by_grant T port caught) ++ ns) (append-nil (told_of_name c T ends q.address q.name)
    ∙ ap (λ x. told_of_name c T ends x q.name) at ∙ ap (told_of_name c T ends a) named)

-- ---- a registration

registered_leaves : (T : Tables) (port index : ℕ) (caught : Caught) → Leaves T (Frame port index caught Registered) []
registered_leaves T port index caught = record { calm = λ b. refl; ended = λ b p e. refl; granted = λ b p g e. cc }

-- the N_Port that registers, which may be there
abbrev changed_before : Caught → Option LivePort → List LivePort
changed_before caught o = filter (λ p. server.has_changed p.values (server.after p.node (ask_of caught) p.values)) (option_to_list o)

abbrev changed_after : List LivePort → Option LivePort → List LivePort
changed_after ports o = filter (λ p. has_changed p (port_at p.address ports)) (option_to_list o)

registered_change : FoundByAddress → PortsStay → (c : Settings) (T : Tables) (port index : ℕ) (caught : Caught) → InPool c T.ports → CanFollow c T port index caught Registered →
    (o : Option LivePort) → port_at (s_id caught) T.ports ≡ o → changed_after (after c T (Frame port index caught Registered)).ports o ≡ changed_before caught o
registered_change found stay c T port index caught asc can None is = refl
registered_change found stay c T port index caught asc can (Some p) is =
    let e : Event = Frame port index caught Registered in
    let at : ℕ = now_after T e in
    let here : p.address ≡ s_id caught = found_address (s_id caught) T.ports p is in
    let live : port_at p.address T.ports ≡ Some p = ap (λ a. port_at a T.ports) here ∙ is in
    ap (λ x. filter (λ q. x) (p ∷ []))
    (ap (has_changed p) (registered_at found c T port index p.address caught p asc live)
    ∙ ap (λ q. server.has_changed p.values q.values) (stay at port index caught Registered p (can p is))
    ∙ ap (λ b. server.has_changed p.values (let q : LivePort = if b then record p { values = server.after p.node (ask_of caught) p.values } else p in q).values) (ap (λ a. a == s_id caught) here ∙ same_number (s_id caught)))

registered_tells : FoundByAddress → PortsStay → (c : Settings) (T : Tables) (port index : ℕ) (caught : Caught) → InPool c T.ports → CanFollow c T port index caught Registered →
    (let e = Frame port index caught Registered in notices c T (after c T e) e ≡ notices_of_frame c T port caught Registered)
unfolding notices
registered_tells found stay c T port index caught asc can =
    let e : Event = Frame port index caught Registered in
    let U : Tables = after c T e in
    ap (λ ps. flat_map (told_of c T U) (filter (λ p. false) T.ports ++ [] ++ ps) ++ []) (registered_change found stay c T port index caught asc can (port_at (s_id caught) T.ports) refl)
    ∙ ap (λ ps. flat_map (told_of c T U) (ps ++ [] ++ changed_at T caught) ++ []) (filter-none T.ports)
    ∙ of_frame found c T e [] asc (registered_leaves T port index caught) [] (changed_at T caught)

-- ---- any frame

pub frames_tell : FoundByAddress → PortsStay → FramesTell
unfolding notices
frames_tell found stay c T port index caught (Granted a) asc can =
    let e : Event = Frame port index caught (Granted a) in
    grant_tells found c T port index a caught asc (ends_or_free T port a caught can.0) (fresh (now_after T e) a (n_port e)) (granted_at c T port index a caught can.1) refl refl
frames_tell found stay c T port index caught (Logout a) asc can = logout_tells found c T port index a caught asc
frames_tell found stay c T port index caught Registered asc can = registered_tells found stay c T port index caught asc can
frames_tell found stay c T port index caught (Watching f) asc can = silent c T (after c T (Frame port index caught (Watching f)))
frames_tell found stay c T port index caught v asc can = silent c T (after c T (Frame port index caught v))
