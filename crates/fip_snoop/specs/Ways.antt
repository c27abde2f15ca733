-- The way of a frame that a bridge received: the first row of a table that drops it, or else where it goes (FC-BB-5, "FIP
-- snooping"; the table and its order are this project's profile).
use Rattle.std.specs.Prelude.{ℕ, Bool, true, false, not, ◌==◌, ◌&&◌, ◌||◌, if◌then◌else◌, List, [], ◌∷◌, Option, Some, None, Ok, Err}
use Rattle.fab_base.specs.declared.values.Caught.{Caught}
use Rattle.fab_config.specs.Settings.{same_bytes}
use Rattle.heard_frames.specs.Heard.{What, Bad, Fip, Fcoe, decoded}
use Rattle.heard_frames.specs.Rows.{first_row, is_wrong_vlan, ALL_FCFS, ALL_ENODES}
use Rattle.heard_frames.specs.declared.unreadable.Unreadable.{Unreadable}
use Rattle.heard_frames.specs.declared.unreadable.Unreadable.TheVariants as unreadable
use Rattle.eth_frames.specs.Ethernet as eth
use Rattle.fcoe_codec.specs.Fcoe as capsule
use Rattle.fip_codec.specs.Message as fip
use Rattle.fip_codec.specs.declared.message.VxPort.{VxPort}
use Rattle.fip_snoop.specs.Messages.{is_of_vlans, is_port_alive}
use Rattle.fip_snoop.specs.History.{History, home, bound, has_moved}
use Rattle.fip_snoop.specs.declared.bindings.Binding.{Binding}
use Rattle.fip_snoop.specs.declared.forwarder.Forwarder.{Forwarder}
use Rattle.fip_snoop.specs.declared.way.SnoopRule.{SnoopRule}
use Rattle.fip_snoop.specs.declared.way.SnoopRule.TheVariants as rule
use Rattle.fip_snoop.specs.declared.way.Way.{Way}
use Rattle.fip_snoop.specs.declared.way.Way.TheVariants.{Up, Down, All, Dropped}

-- ---- rows

-- the rule of a frame that can't be read: all faults of FIP are one rule here
abbrev pub rule_of : Unreadable → SnoopRule
rule_of unreadable.Truncated = rule.Truncated
rule_of unreadable.EthShort = rule.EthShort
rule_of unreadable.Ethertype = rule.Ethertype
rule_of (unreadable.Fip fault) = rule.FipFault

-- the binding is of this port
abbrev pub is_on : ℕ → Option Binding → Bool
is_on port None = false
is_on port (Some b) = b.port == port

-- the binding is of this address
abbrev pub is_of : ℕ → Option Binding → Bool
is_of address None = false
is_of address (Some b) = b.address == address

-- the Vx_Port of a keep alive is the bound one
abbrev pub is_own : List ℕ → Option Binding → VxPort → Bool
is_own mac b vx = is_of vx.address b && same_bytes vx.mac mac

-- a keep alive of a VN_Port from a MAC names another one
abbrev pub names_another : List ℕ → Option Binding → fip.Fip → Bool
names_another mac b (fip.Keep from (Some vx)) = not (is_own mac b vx)
names_another mac b _ = false

abbrev pub drops : List (Bool × SnoopRule) → Way → Way
drops rows way = elim (first_row rows) [ Some r ↦ Dropped r | None ↦ way ]

-- ---- up, from the port of an ENode

abbrev pub is_to_forwarders : Forwarder → List ℕ → Bool
is_to_forwarders w dst = same_bytes dst w.mac || same_bytes dst ALL_FCFS

-- the rows of a message, by what its source MAC is bound to; a message of VLANs may be untagged
abbrev pub up_rows : Forwarder → ℕ → eth.Eth → fip.Fip → Option Binding → Bool → List (Bool × SnoopRule)
up_rows w port f m b moved =
    (is_wrong_vlan w.vlan f (is_of_vlans m), rule.Vlan)
    ∷ (fip.is_forwarders m, rule.Role)
    ∷ (not (is_to_forwarders w f.dst), rule.Dest)
    ∷ (not (is_port_alive m) && moved, rule.Moved)
    ∷ (is_port_alive m && not (is_on port b), rule.Unbound)
    ∷ (names_another f.src b m, rule.Source)
    ∷ []

abbrev pub up_data_rows : Forwarder → ℕ → eth.Eth → capsule.Fcoe → Option Binding → List (Bool × SnoopRule)
up_data_rows w port f x b =
    (is_wrong_vlan w.vlan f false, rule.Vlan)
    ∷ (not (same_bytes f.dst w.mac), rule.Dest)
    ∷ (not (is_on port b), rule.Unbound)
    ∷ (not (is_of x.frame.head.s_id b), rule.Source)
    ∷ []

-- ---- down, from the forwarder's port

-- where a message goes down: to all ENode ports, or to the home of its destination
abbrev pub down_to : List ℕ → Option ℕ → Way
down_to dst (Some q) = if same_bytes dst ALL_ENODES then All else Down q
down_to dst None = if same_bytes dst ALL_ENODES then All else Dropped rule.NoHome

-- a message that only an ENode sends
abbrev pub is_enodes : fip.Fip → Bool
is_enodes (fip.Login _ _ _ _) = true
is_enodes (fip.Keep _ _) = true
is_enodes (fip.VlanAsk _ _) = true
is_enodes (fip.Solicit from_fcf _ _ _ _) = not from_fcf
is_enodes _ = false

abbrev pub down_rows : Forwarder → eth.Eth → fip.Fip → List (Bool × SnoopRule)
down_rows w f m =
    (is_wrong_vlan w.vlan f (is_of_vlans m), rule.Vlan)
    ∷ (not (same_bytes f.src w.mac), rule.NotFcf)
    ∷ (is_enodes m, rule.Role)
    ∷ []

abbrev pub down_data_to : ℕ → Option Binding → Way
down_data_to d_id None = Dropped rule.Unbound
down_data_to d_id (Some b) = if b.address == d_id then Down b.port else Dropped rule.Address

abbrev pub down_data_rows : Forwarder → eth.Eth → List (Bool × SnoopRule)
down_data_rows w f =
    (is_wrong_vlan w.vlan f false, rule.Vlan)
    ∷ (not (same_bytes f.src w.mac), rule.NotFcf)
    ∷ []

-- ---- all

-- the port of the forwarder's side
abbrev pub FORWARDER_PORT : ℕ
FORWARDER_PORT = 1

abbrev pub data_way : Forwarder → (List ℕ → Option Binding) → ℕ → eth.Eth → capsule.Fcoe → Way
data_way w bound_of port f x =
    if port == FORWARDER_PORT then drops (down_data_rows w f) (down_data_to x.frame.head.d_id (bound_of f.dst))
    else drops (up_data_rows w port f x (bound_of f.src)) Up

-- The way of a decoded frame, by where ENodes are, which MACs are bound, and which ENodes have a binding on another port.
abbrev pub way_by : Forwarder → (List ℕ → Option ℕ) → (List ℕ → Option Binding) → (List ℕ → Bool) → ℕ → What → Way
way_by w home_of bound_of moved port (Bad fault) = Dropped (rule_of fault)
way_by w home_of bound_of moved port (Fcoe f (Err fault)) = Dropped rule.FcoeFault
way_by w home_of bound_of moved port (Fcoe f (Ok x)) = data_way w bound_of port f x
way_by w home_of bound_of moved port (Fip f m) =
    if port == FORWARDER_PORT then drops (down_rows w f m) (down_to f.dst (home_of f.dst))
    else drops (up_rows w port f m (bound_of f.src) (moved f.src)) Up

-- The way of a frame of a port, behind what was handled before.
unfoldable pub way_of : Forwarder → History → ℕ → Caught → Way
way_of w L port caught = way_by w (home L) (bound w L) (has_moved w L port) port (decoded caught)
