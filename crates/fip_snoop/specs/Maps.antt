-- How a bridge keeps homes and bindings, so that none is looked for one by one: homes in the order of their MACs, and bindings in two
-- orders, by MAC and by ENode. No public clause cites this module.
use Rattle.std.specs.Prelude.{◌≡◌, ℕ, ◌+◌, ◌*◌, ◌<◌, ◌≤◌, ◌^◌, ◌==◌, ◌⊎◌, Bool, true, false, not, nat_le, nat_lt, ◌&&◌, if◌then◌else◌, List, map, length, Option, None, Some, is_some, slice_index, find, [], ◌∷◌}
use Rattle.std.specs.List.{All, filter}
use Rattle.fab_base.specs.Keyed.{AscendFrom, added, without}
use Rattle.fab_base.specs.Layout.{big_endian}
use Rattle.fab_config.specs.Settings.{same_bytes}
use Rattle.fip_codec.specs.Message as fip
use Rattle.fip_codec.specs.Message.{Clear, view}
use Rattle.sorted_lists.specs.Index.{IsIndex}
use Rattle.heard_frames.specs.Heard.{What, Fip}
use Rattle.fip_snoop.specs.History.{Delivery, bound_by}
use Rattle.fip_snoop.specs.Messages.{is_port_alive}
use Rattle.fip_snoop.specs.Snoop.{Contents, is_home_of, home_in, is_binding_of, binding_in, is_ended, delivery_to}
use Rattle.fip_snoop.specs.declared.bindings.Binding.{Binding}
use Rattle.fip_snoop.specs.declared.forwarder.Forwarder.{Forwarder}
use Rattle.fip_snoop.specs.declared.way.Way.{Way}
use Rattle.fip_snoop.specs.declared.way.Way.TheVariants.{Up, Down}
use Rattle.fip_snoop.specs.declared.grant.Ending.{Ending}
use Rattle.fip_snoop.specs.declared.grant.Ending.TheVariants.{Others, Told}
use Rattle.fip_snoop.specs.declared.home.Home.{Home}
use Rattle.fip_snoop.specs.declared.orders.ByEnode.{ByEnode}

-- six bytes
abbrev pub IsMac : List ℕ → Type 0
IsMac mac = (length mac ≡ 6) × ((i : ℕ) → slice_index mac i < 256)

-- ---- homes

abbrev pub home_number : Home → ℕ
home_number h = big_endian h.mac

abbrev pub IsWholeHome : Home → Type 0
IsWholeHome h = IsMac h.mac

-- for each MAC both have the same homes
abbrev pub SameHomes : List Home → List Home → Type 0
SameHomes hs ks = (mac : List ℕ) → filter (is_home_of mac) hs ≡ filter (is_home_of mac) ks

-- ---- bindings

-- the number of the binding of a MAC
abbrev pub number_of : List ℕ → ℕ
number_of mac = big_endian mac

abbrev pub mac_number : Binding → ℕ
mac_number b = number_of b.mac

-- the least number of the bindings of an ENode from a port on
abbrev pub number_from : List ℕ → ℕ → ℕ
number_from enode port = (big_endian enode * 2 ^ 16 + port) * 2 ^ 48

-- the number of a binding by its ENode, then its port, then its MAC
abbrev pub enode_number : Binding → ℕ
enode_number b = number_from b.enode b.port + big_endian b.mac

abbrev pub IsWhole : Binding → Type 0
IsWhole b = IsMac b.mac × IsMac b.enode × (b.port < 2 ^ 16)

-- the bindings that are kept by ENode
abbrev pub bindings_of : List ByEnode → List Binding
bindings_of kept = map (λ (k : ByEnode). k.binding) kept

-- Bindings in the order of their MACs, and the same in that of their ENodes.
pub record AreKept (macs enodes : List Binding) : Type 0 where
  pub whole : All IsWhole macs
  pub by_mac : AscendFrom mac_number 0 macs
  pub same : IsIndex mac_number enode_number (λ b. b) macs enodes

-- what is left by MAC where a binding of this number isn't put after all: the one that was there before, or none
abbrev pub restored : ℕ → Option Binding → List Binding → List Binding
restored number None macs = without mac_number number macs
restored number (Some old) macs = added mac_number old macs

-- what is left by ENode where a binding replaces another one of its MAC, or none
abbrev pub forgotten : Binding → Option Binding → List Binding → List Binding
forgotten b None enodes = enodes
forgotten b (Some old) enodes = if enode_number old == enode_number b then enodes else without enode_number (enode_number old) enodes

-- a message that is no grant may end a binding: it clears some, or accepts a LOGO
abbrev pub may_end : fip.Fip → Option ℕ → Bool
may_end (Clear _ _ _) released = true
may_end _ released = is_some released

-- a message to an ENode ends a binding
abbrev pub is_ended_by : List ℕ → Ending → Binding → Bool
is_ended_by enode (Others own) b = same_bytes enode b.enode && not (is_binding_of own b)
is_ended_by enode (Told message released) b = is_ended enode (view message.now) false released b

-- for each MAC both have the same bindings
abbrev pub SameBindings : List Binding → List Binding → Type 0
SameBindings bs cs = (mac : List ℕ) → filter (is_binding_of mac) bs ≡ filter (is_binding_of mac) cs

-- a binding's number by ENode is in a range
abbrev pub is_between : ℕ → ℕ → Binding → Bool
is_between from to b = nat_le from (enode_number b) && nat_lt (enode_number b) to

-- a binding, if it is of an ENode
abbrev pub if_its : List ℕ → Option Binding → Option Binding
if_its enode None = None
if_its enode (Some b) = if same_bytes enode b.enode then Some b else None

-- the first binding from a number on, if it is of an ENode
abbrev pub first_of : List ℕ → ℕ → List Binding → Option Binding
first_of enode from bindings = if_its enode (find (λ b. nat_le from (enode_number b)) bindings)

-- ---- the bindings of an ENode, one after another

abbrev pub IsOf : List ℕ → Binding → Type 0
IsOf enode b = same_bytes enode b.enode ≡ true

-- all of an ENode are below a bound
abbrev pub AreBelow : List ℕ → ℕ → List Binding → Type 0
AreBelow enode from bindings = All (λ b. IsOf enode b → enode_number b < from) bindings

-- A binding is the first of an ENode that isn't below a bound, and the one of its MAC.
pub record IsFirst (enode : List ℕ) (from : ℕ) (bindings : List Binding) (x : Binding) : Type 0 where
  pub own : IsOf enode x
  pub from_ : from ≤ enode_number x
  pub first : All (λ b. IsOf enode b → (enode_number b < from) ⊎ ((enode_number x < enode_number b) ⊎ (b ≡ x))) bindings
  pub alone : All (λ b. is_binding_of x.mac b ≡ true → b ≡ x) bindings

-- a binding is the one of its MAC
abbrev pub IsBound : Binding → List Binding → Type 0
IsBound x bindings = filter (is_binding_of x.mac) bindings ≡ x ∷ []

-- ---- all that is kept

-- For each MAC both have the same, and they are of one forwarder.
pub record IsLike (s t : Contents) : Type 0 where
  pub forwarder : s.forwarder ≡ t.forwarder
  pub homes : SameHomes s.homes t.homes
  pub bindings : SameBindings s.bindings t.bindings

-- ---- what is known already

-- what a delivery binds is bound so already, if it binds anything
abbrev pub IsBoundAlready : Forwarder → Delivery → List Binding → Type 0
IsBoundAlready w d bindings = (b : Binding) → bound_by w d ≡ Some b → binding_in bindings b.mac ≡ Some b

-- a frame of a port that goes this way tells nothing new: of where its ENode is, or of what it binds
abbrev pub IsKnownAlready : ℕ → What → Way → Contents → Type 0
IsKnownAlready port (Fip f m) Up s = is_port_alive m ≡ false → home_in s.homes f.src ≡ Some port
IsKnownAlready port (Fip f m) (Down q) s = IsBoundAlready s.forwarder (delivery_to q f.dst m) s.bindings
IsKnownAlready port what way s = Unit {0}
