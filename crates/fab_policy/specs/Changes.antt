-- What entries do to the tables, address by address: what a table of its own must do for each entry.
use Rattle.std.specs.Prelude.{◌≡◌, ℕ, Bool, true, false, not, ◌==◌, ◌&&◌, if◌then◌else◌, List, map, filter, length, Option, Some, None, option_map, option_and_then, unwrap_or, is_none, is_some, IsSome, IsTrue}
use Rattle.fab_base.specs.Fabric.{Past, same_enode}
use Rattle.fab_base.specs.declared.values.Caught.{Caught}
use Rattle.fab_base.specs.declared.values.Enode.{Enode}
use Rattle.fab_config.specs.Settings.{Settings, is_in_range}
use Rattle.zone_rules.specs.Joined.{contains}
use Rattle.els_messages.specs.Els.{receive_size}
use Rattle.ct_messages.specs.Ct.{Ask}
use Rattle.ct_messages.specs.CanWrite.{HasByte}
use Rattle.ct_messages.specs.Server.{is_registration}
use Rattle.ct_messages.specs.Server as server
use Rattle.heard_frames.specs.Heard.{sender, is_flogi, s_id, ask_of, asked}
use Rattle.fab_policy.specs.Logins.{n_port}
use Rattle.fab_policy.specs.State.{LivePort, Tables, port_at, overdue, is_overdue, addresses, now_of}
use Rattle.fab_policy.specs.Steps.{after, InPool, fresh, touched, clock_after, port_after, past_after}
use Rattle.fab_policy.specs.Spelling.{EndsAscend}
use Rattle.fab_policy.specs.declared.event.Event.{Event}
use Rattle.fab_policy.specs.declared.event.Event.TheVariants.{Tick, Frame}
use Rattle.fab_policy.specs.declared.verdict.Verdict.{Verdict}
use Rattle.fab_policy.specs.declared.verdict.Verdict.TheVariants.{Granted, Logout, AliveNode, AlivePort, NsLogin, NsLogout, Watching, Registered}

-- ---- any entry

-- the clock after an entry, as a number
abbrev pub now_after : Tables → Event → ℕ
now_after T e = unwrap_or (clock_after e T.clock) 0

-- the ENode that holds an address
abbrev pub holder_of : ℕ → List LivePort → Option Enode
holder_of a ports = option_map (λ q. q.enode) (port_at a ports)

-- Tables changed from T to U as an entry says, at each address.
pub record ChangesBy (c : Settings) (e : Event) (T U : Tables) : Type 0 where
  pub clock : U.clock ≡ clock_after e T.clock
  pub ascending : InPool c U.ports
  pub ports : (a : ℕ) → port_at a U.ports ≡ port_after (now_after T e) a e (port_at a T.ports)
  pub past : U.past ≡ map (λ p. past_after (now_after T e) p.address e (holder_of p.address T.ports) p) T.past

-- Such tables are those after the entry.
abbrev pub ChangesAreAfter : Type 0
ChangesAreAfter = (c : Settings) (e : Event) (T U : Tables) → ChangesBy c e T U → U ≡ after c T e

-- ---- a tick

-- the past of an address after these logins ended
abbrev pub all_ended : List ℕ → ℕ → Past → Past
all_ended ends at p = if contains p.address ends then record { address = p.address; name = p.name; ended = Some at } else p

-- A tick takes away the N_Ports that are overdue, and marks the ends of their addresses.
abbrev pub TickSteps : Type 0
TickSteps = (c : Settings) (T : Tables) (m : ℕ) → InPool c T.ports → (let ends = addresses (overdue c T m) in after c T (Tick m ends) ≡ record {
  clock = Some m;
  ports = filter (λ p. not (is_overdue c m p)) T.ports;
  past = map (all_ended ends m) T.past;
})

-- The addresses that a tick ends ascend, in the pool of a configuration in range.
abbrev pub EndsOfTicks : Type 0
EndsOfTicks = (c : Settings) (T : Tables) (m : ℕ) → IsTrue (is_in_range c) → InPool c T.ports → EndsAscend (Tick m (addresses (overdue c T m)))

-- ---- a frame that grants and ends nothing

-- the ENode is heard, so each of its N_Ports is
abbrev pub heard_node : Enode → ℕ → LivePort → LivePort
heard_node x at p = if same_enode p.enode x then record p { node_heard = at } else p

abbrev pub heard_port : ℕ → ℕ → LivePort → LivePort
heard_port a at p = if p.address == a then record p { port_heard = at } else p

-- a login to the name server with a receive size, or none
abbrev pub with_server : ℕ → Option ℕ → LivePort → LivePort
with_server a size p = if p.address == a then record p { server = size } else p

-- what an N_Port watches once it asked with a function: 255 takes it back
abbrev pub with_watch : ℕ → ℕ → LivePort → LivePort
with_watch a f p = if p.address == a then record p { watch = if f == 255 then 0 else f } else p

-- the values of an N_Port that registers, as the name server's table says
abbrev pub with_values : ℕ → Ask → LivePort → LivePort
with_values a ask p = if p.address == a then record p { values = server.after p.node ask p.values } else p

-- an N_Port that stays after a frame of this verdict
abbrev pub stays_as : ℕ → ℕ → Caught → Verdict → LivePort → LivePort
stays_as at port caught AliveNode p = heard_node (sender port caught) at p
stays_as at port caught (AlivePort a) p = heard_port a at p
stays_as at port caught NsLogin p = with_server (s_id caught) (Some (receive_size (asked caught))) p
stays_as at port caught NsLogout p = with_server (s_id caught) None p
stays_as at port caught (Watching f) p = with_watch (s_id caught) f p
stays_as at port caught Registered p = with_values (s_id caught) (ask_of caught) p
stays_as at port caught (Granted a) p = heard_node (sender port caught) at p
stays_as at port caught _ p = p

-- It does so beside the address that is granted, and registers what the table knows.
abbrev pub CanStay : Caught → Verdict → LivePort → Type 0
CanStay caught (Granted a) p = p.address == a ≡ false
CanStay caught Registered p = (is_registration (ask_of caught) ≡ true) × HasByte (ask_of caught) × (length p.values.features ≡ 256)
CanStay caught _ p = Unit {0}

abbrev pub PortsStay : Type 0
PortsStay = (at port index : ℕ) (caught : Caught) (v : Verdict) (p : LivePort) → CanStay caught v p → touched at p.address (Frame port index caught v) p ≡ stays_as at port caught v p

-- verdicts that grant no address and end no login
abbrev pub leaves_logins : Verdict → Bool
leaves_logins (Granted a) = false
leaves_logins (Logout a) = false
leaves_logins _ = true

-- Tables in which each N_Port stays so, and nothing else changes, are those after the frame.
abbrev pub FrameSteps : Type 0
FrameSteps = (c : Settings) (port index : ℕ) (caught : Caught) (v : Verdict) (T U : Tables) → leaves_logins v ≡ true →
    ((a : ℕ) (p : LivePort) → port_at a T.ports ≡ Some p → CanStay caught v p) →
    U.clock ≡ T.clock → InPool c U.ports → ((a : ℕ) → port_at a U.ports ≡ option_map (stays_as (now_of T) port caught v) (port_at a T.ports)) → U.past ≡ T.past →
    U ≡ after c T (Frame port index caught v)

-- ---- a frame that ends a login

-- the past of an address whose login ends
abbrev pub ended_at : ℕ → ℕ → Past → Past
ended_at a at p = if p.address == a then record { address = p.address; name = p.name; ended = Some at } else p

-- Tables in which a live login ended, and nothing else changed, are those after its logout.
abbrev pub LogoutSteps : Type 0
LogoutSteps = (c : Settings) (port index a : ℕ) (caught : Caught) (T U : Tables) → IsSome (port_at a T.ports) →
    U.clock ≡ T.clock → InPool c U.ports → ((b : ℕ) → port_at b U.ports ≡ (if b == a then None else port_at b T.ports)) → U.past ≡ map (ended_at a (now_of T)) T.past →
    U ≡ after c T (Frame port index caught (Logout a))

-- ---- a grant: the earlier logins of its ENode end where it is a FLOGI, and the address is granted

-- what a FLOGI leaves of an N_Port
abbrev pub left_by : Bool → Enode → Option LivePort → Option LivePort
left_by flogi x before = option_and_then (λ p. if same_enode p.enode x && flogi then None else Some p) before

abbrev pub granted_to : ℕ → ℕ → Past → Past
granted_to a name p = if p.address == a then record { address = p.address; name = Some name; ended = None } else p

-- The N_Port of each address after a grant.
abbrev pub GrantPorts : Type 0
GrantPorts = (at port index a b : ℕ) (caught : Caught) (o : Option LivePort) → ((p : LivePort) → o ≡ Some p → p.address ≡ b) → (let e = Frame port index caught (Granted a) in
    (if b == a then Some (fresh at b (n_port e)) else option_map (heard_node (sender port caught) at) (left_by (is_flogi caught) (sender port caught) o)) ≡ port_after at b e o)

-- The past of each address after a grant.
abbrev pub GrantPast : Type 0
GrantPast = (at port index a : ℕ) (caught : Caught) (o : Option LivePort) (p : Past) → (let e = Frame port index caught (Granted a) in
    granted_to a (n_port e).name (if is_none (left_by (is_flogi caught) (sender port caught) o) && is_some o then record { address = p.address; name = p.name; ended = Some at } else p)
    ≡ past_after at p.address e (option_map (λ q. q.enode) o) p)

-- Tables in which the earlier logins of the ENode ended and the address is granted, and nothing else changed, are those after it.
abbrev pub GrantSteps : Type 0
GrantSteps = (c : Settings) (port index a : ℕ) (caught : Caught) (T U : Tables) → (let e = Frame port index caught (Granted a) in let x = sender port caught in
    U.clock ≡ T.clock → InPool c U.ports →
    ((b : ℕ) → port_at b U.ports ≡ (if b == a then Some (fresh (now_of T) b (n_port e)) else option_map (heard_node x (now_of T)) (left_by (is_flogi caught) x (port_at b T.ports)))) →
    U.past ≡ map (λ p. granted_to a (n_port e).name (let o = port_at p.address T.ports in
    if is_none (left_by (is_flogi caught) x o) && is_some o then record { address = p.address; name = p.name; ended = Some (now_of T) } else p)) T.past →
    U ≡ after c T e)
