-- Who is logged in, since when, and what it did since (FC-LS-2, "Login"; FC-BB-5, "FIP FLOGI" and "FIP keep alive").
use Rattle.std.specs.Prelude.{ℕ, ◌+◌, ◌*◌, Bool, true, false, not, ◌==◌, ◌&&◌, if◌then◌else◌, List, [], ◌∷◌, Option, Some, None, is_some, unwrap_or, option_and_then}
use Rattle.std.specs.List.{list_any}
use Rattle.fab_base.specs.Counting.{counting}
use Rattle.fab_base.specs.Fabric.{same_enode, fpma}
use Rattle.fab_base.specs.declared.values.Enode.{Enode}
use Rattle.fab_config.specs.Settings.{Settings}
use Rattle.zone_rules.specs.Joined.{contains}
use Rattle.els_messages.specs.Els.{receive_size}
use Rattle.fab_policy.specs.Journal.{Journal, latest, up_to_last, after_last, now}
use Rattle.heard_frames.specs.Heard.{sender, is_flogi, asked, s_id}
use Rattle.fab_policy.specs.declared.event.Event.{Event}
use Rattle.fab_policy.specs.declared.event.Event.TheVariants.{Tick, Frame}
use Rattle.fab_policy.specs.declared.verdict.Verdict.TheVariants.{Granted, Logout, AliveNode, AlivePort, NsLogin, NsLogout, Watching}

-- What a login says of an N_Port: its port name, its node name and its ENode.
pub record NPort : Type 0 where
  pub name : ℕ
  pub node : ℕ
  pub enode : Enode

-- the MAC that comes with an address: the FC-MAP and the address (FC-BB-5, "fabric-provided MAC address")
abbrev pub granted_mac : Settings → ℕ → List ℕ
granted_mac c a = fpma c.fc_map a

-- ---- grants and ends

-- the entry grants the address
abbrev pub grants : ℕ → Event → Bool
grants a (Frame port index caught (Granted b)) = a == b
grants a _ = false

-- the N_Port of an entry's login request
abbrev pub n_port : Event → NPort
n_port (Frame port index caught verdict) = record { name = (asked caught).port_name; node = (asked caught).node_name; enode = sender port caught }
n_port (Tick moment ended) = record { name = 0; node = 0; enode = record { port = 0; mac = [] } }

-- the N_Port that the last grant of the address made
abbrev pub last_grant : ℕ → Journal → Option NPort
last_grant a J = latest (λ e. if grants a e then Some (n_port e) else None) J

-- The entry ends the login of the address, which an ENode holds: a tick that lists the address, its logout, or another
-- accepted FLOGI of that ENode.
abbrev pub ends : ℕ → Enode → Event → Bool
ends a enode (Tick moment ended) = contains a ended
ends a enode (Frame port index caught (Logout b)) = a == b
ends a enode (Frame port index caught (Granted b)) = same_enode enode (sender port caught) && is_flogi caught
ends a enode _ = false

-- the entries since the last grant of the address
abbrev pub since : ℕ → Journal → List Event
since a J = after_last (grants a) J

-- The login of an address: what its last grant made, unless an entry since then ended it.
abbrev pub login : ℕ → Journal → Option NPort
login a J = option_and_then (λ p. if list_any (ends a p.enode) (since a J) then None else Some p) (last_grant a J)

abbrev pub is_live : ℕ → Journal → Bool
is_live a J = is_some (login a J)

-- J up to the entry that ended the last login of the address, with it
abbrev pub up_to_end : ℕ → Journal → Journal
up_to_end a [] = []
up_to_end a (e ∷ J) = elim (is_live a J && not (is_live a (e ∷ J))) [ true ↦ e ∷ J | false ↦ up_to_end a J ]

-- the clock when the last login of the address ended
abbrev pub end_clock : ℕ → Journal → ℕ
end_clock a J = now (up_to_end a J)

-- ---- the pool

-- the addresses that are granted, ascending
abbrev pub pool : Settings → List ℕ
pool c = counting (c.domain * 65536 + 256) c.pool

-- ---- services

-- what an entry says of the address's login to the name server: the receive size, or none after a logout
abbrev pub says_server : ℕ → Event → Option (Option ℕ)
says_server a (Frame port index caught NsLogin) = if a == s_id caught then Some (Some (receive_size (asked caught))) else None
says_server a (Frame port index caught NsLogout) = if a == s_id caught then Some None else None
says_server a _ = None

-- the receive size of a live address's login to the name server, and none without such a login
abbrev pub server : ℕ → Journal → Option ℕ
server a J = unwrap_or (latest (says_server a) (since a J)) None

-- what an entry says of the state changes that the address asks for (FC-LS-2, "State Change Registration")
abbrev pub says_watch : ℕ → Event → Option ℕ
says_watch a (Frame port index caught (Watching f)) = if a == s_id caught then Some (if f == 255 then 0 else f) else None
says_watch a _ = None

-- the function that a live address asked for, and 0 without one
abbrev pub watch : ℕ → Journal → ℕ
watch a J = unwrap_or (latest (says_watch a) (since a J)) 0

-- ---- silence

-- the entry is a granted login of the ENode, or its keep alive
abbrev pub hears_node : Enode → Event → Bool
hears_node enode (Frame port index caught (Granted b)) = same_enode enode (sender port caught)
hears_node enode (Frame port index caught AliveNode) = same_enode enode (sender port caught)
hears_node enode _ = false

-- the clock when a live ENode was last heard
abbrev pub node_heard : Enode → Journal → ℕ
node_heard enode J = now (up_to_last (hears_node enode) J)

-- the entry is a grant of the address, or its keep alive
abbrev pub hears_port : ℕ → Event → Bool
hears_port a (Frame port index caught (Granted b)) = a == b
hears_port a (Frame port index caught (AlivePort b)) = a == b
hears_port a _ = false

-- the clock when a live address was last heard
abbrev pub port_heard : ℕ → Journal → ℕ
port_heard a J = now (up_to_last (hears_port a) J)
