-- What the messages of a forwarder say to a bridge between it and its ENodes (FC-BB-5, "FIP snooping").
use Rattle.std.specs.Prelude.{ℕ, Bool, true, false, ◌==◌, ◌||◌, if◌then◌else◌, List, length, Option, Some, None, is_some, Ok, Err, option_and_then}
use Rattle.std.specs.List.{list_any}
use Rattle.fab_base.specs.Fabric.{fpma}
use Rattle.fab_config.specs.Settings.{Settings, same_bytes}
use Rattle.fc_frames.specs.Frame as fc
use Rattle.els_messages.specs.Els as els
use Rattle.fip_codec.specs.Message as fip
use Rattle.fip_codec.specs.declared.message.LoginKind.{LoginKind}
use Rattle.fip_codec.specs.declared.message.VxPort.{VxPort}
use Rattle.fip_codec.specs.declared.message.LoginKind.TheVariants.{Flogi, Fdisc, Logo}
use Rattle.fip_snoop.specs.declared.forwarder.Forwarder.{Forwarder}
use Rattle.fip_snoop.specs.declared.grant.Grant.{Grant}

-- what a configuration says of the forwarder
abbrev pub forwarder_of : Settings → Forwarder
forwarder_of c = record { mac = c.fcf_mac; fc_map = c.fc_map; vlan = c.vlan }

-- the MAC that comes with an address: the FC-MAP and the address (FC-BB-5, "fabric-provided MAC address")
abbrev pub granted_mac : Forwarder → ℕ → List ℕ
granted_mac w a = fpma w.fc_map a

-- ---- accepts

abbrev pub is_login_accept : els.Els → Bool
is_login_accept (els.LoginAccept parms) = true
is_login_accept _ = false

abbrev pub is_accept : els.Els → Bool
is_accept els.Accept = true
is_accept _ = false

-- the address to which an FC frame is, whose payload is read and passes
abbrev pub told_address : (els.Els → Bool) → List ℕ → Option ℕ
told_address passes l = elim (fc.decoded l) [
  | Err fault ↦ None
  | Ok f ↦ elim (els.decoded f.payload) [ Err fault ↦ None | Ok payload ↦ (if passes payload then Some f.head.d_id else None) ]
]

-- the address to which an FC frame is an accept of a login, or of a LOGO; an accept with the bytes of login parameters is one of a
-- login alone
abbrev pub login_accepted : List ℕ → Option ℕ
login_accepted l = told_address is_login_accept l

abbrev pub logout_accepted : List ℕ → Option ℕ
logout_accepted l = told_address is_accept l

-- ---- replies

-- a granted MAC has to be that of its address
abbrev pub grant_of : Forwarder → Bool → List ℕ → ℕ → Option Grant
grant_of w first mac a = if same_bytes mac (granted_mac w a) then Some (record { address = a; first = first }) else None

abbrev pub granted_by : Forwarder → LoginKind → List ℕ → List ℕ → Option Grant
granted_by w Flogi frame mac = option_and_then (grant_of w true mac) (login_accepted frame)
granted_by w Fdisc frame mac = option_and_then (grant_of w false mac) (login_accepted frame)
granted_by w Logo frame mac = None

-- The grant that a message is: a reply to a FLOGI or FDISC, with an accept of a login to an address and the MAC of that address.
-- That its R_CTL, TYPE and OX_ID are those of a reply isn't asked for, nor that the ENode has asked; this is the project's profile.
abbrev pub grant_in : Forwarder → fip.Fip → Option Grant
grant_in w (fip.LoginReply kind fp frame (Some mac)) = granted_by w kind frame mac
grant_in w _ = None

-- a grant that answers a FLOGI
abbrev pub is_first_grant : Option Grant → Bool
is_first_grant None = false
is_first_grant (Some g) = g.first

abbrev pub released_by : LoginKind → List ℕ → Option ℕ
released_by Logo frame = logout_accepted frame
released_by Flogi frame = None
released_by Fdisc frame = None

-- the address whose LOGO a message accepts
abbrev pub released_in : fip.Fip → Option ℕ
released_in (fip.LoginReply kind fp frame mac) = released_by kind frame
released_in _ = None

abbrev pub is_at : ℕ → Option ℕ → Bool
is_at a None = false
is_at a (Some b) = b == a

-- the message clears the virtual link of a MAC: it lists that MAC, or nothing
abbrev pub names : List ℕ → List VxPort → Bool
names mac ports = list_any (λ p. same_bytes p.mac mac) ports

abbrev pub lists : List VxPort → List ℕ → Bool
lists ports mac = length ports == 0 || names mac ports

abbrev pub clears : List ℕ → fip.Fip → Bool
clears mac (fip.Clear from switch ports) = lists ports mac
clears mac _ = false

-- ---- kinds of message

-- may come without a tag
abbrev pub is_of_vlans : fip.Fip → Bool
is_of_vlans (fip.VlanAsk _ _) = true
is_of_vlans (fip.VlanTell _ _) = true
is_of_vlans _ = false

-- the keep alive of a VN_Port
abbrev pub is_port_alive : fip.Fip → Bool
is_port_alive (fip.Keep mac port) = is_some port
is_port_alive _ = false
