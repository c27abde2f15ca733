-- What is true of each history.
use Rattle.std.specs.Prelude.{◌≡◌, ◌≢◌, ℕ, ◌↔◌, Bool, true, false, List, [], ◌∷◌, ◌++◌, Some, Result, Ok}
use Rattle.fab_base.specs.declared.values.Caught.{Caught}
use Rattle.eth_frames.specs.Ethernet as eth
use Rattle.fcoe_codec.specs.Fcoe as capsule
use Rattle.fcoe_codec.specs.declared.FcoeFault.{FcoeFault}
use Rattle.heard_frames.specs.Heard.{Fip, Fcoe, decoded}
use Rattle.fip_codec.specs.Message as fip
use Rattle.fip_snoop.specs.Bridge.{leads_to}
use Rattle.fip_snoop.specs.Messages.{is_port_alive}
use Rattle.fip_snoop.specs.History.{Handled, History, or_else, shows, home, delivery, binds, ends, bound, bound_after, is_grant, has_moved}
use Rattle.fip_snoop.specs.Ways.{FORWARDER_PORT, way_of}
use Rattle.fip_snoop.specs.declared.bindings.Binding.{Binding}
use Rattle.fip_snoop.specs.declared.forwarder.Forwarder.{Forwarder}
use Rattle.fip_snoop.specs.declared.way.Way.TheVariants.{Up}

-- ---- one more entry

-- a message that goes up sets the home of its source
abbrev pub HomeGrows : Type 0
HomeGrows = (h : Handled) (L : History) (mac : List ℕ) → home (h ∷ L) mac ≡ or_else (shows mac h) (home L mac)

-- a message that goes down may make a binding or end it, and nothing else does
abbrev pub BoundGrows : Type 0
BoundGrows = (w : Forwarder) (h : Handled) (L : History) (mac : List ℕ) → bound w (h ∷ L) mac ≡ bound_after w mac (delivery h) (bound w L mac)

-- ---- where an ENode is

-- An entry shows where an ENode is: a message from its MAC went up that is no keep alive of a VN_Port.
pub record ShowsHome (mac : List ℕ) (entry : Handled) : Type 0 where
  pub frame : eth.Eth
  pub message : fip.Fip
  pub is : decoded entry.caught ≡ Fip frame message
  pub source : frame.src ≡ mac
  pub of_enode : is_port_alive message ≡ false
  pub up : entry.way ≡ Up

-- none of these shows where an ENode is
abbrev pub NoneShows : List ℕ → History → Type 0
NoneShows mac [] = Unit {0}
NoneShows mac (h ∷ L) = (ShowsHome mac h → ⊥) × NoneShows mac L

-- An entry that came on a port shows where the ENode is, and none after it does.
pub record IsHome (L : History) (mac : List ℕ) (port : ℕ) : Type 0 where
  pub later : History
  pub entry : Handled
  pub before : History
  pub are : L ≡ later ++ entry ∷ before
  pub shows_ : ShowsHome mac entry
  pub port_ : entry.port ≡ port
  pub last : NoneShows mac later

abbrev pub HomeIs : Type 0
HomeIs = (L : History) (mac : List ℕ) (port : ℕ) → (home L mac ≡ Some port) ↔ IsHome L mac port

-- ---- who is bound

-- none of these passes
abbrev pub NoneOf : (Handled → Bool) → History → Type 0
NoneOf passes [] = Unit {0}
NoneOf passes (h ∷ L) = (passes h ≡ false) × NoneOf passes L

-- An entry granted the MAC, none after it did, and none after it ended what it made.
pub record IsBound (w : Forwarder) (L : History) (mac : List ℕ) (b : Binding) : Type 0 where
  pub later : History
  pub entry : Handled
  pub before : History
  pub are : L ≡ later ++ entry ∷ before
  pub makes : binds w mac entry ≡ Some b
  pub last : NoneOf (is_grant w mac) later
  pub stands : NoneOf (ends w b) later

abbrev pub BoundIs : Type 0
BoundIs = (w : Forwarder) (L : History) (mac : List ℕ) (b : Binding) → (bound w L mac ≡ Some b) ↔ IsBound w L mac b

-- an ENode has moved where some MAC is bound to it on another port
abbrev pub MovedIs : Type 0
MovedIs =
    (w : Forwarder) (L : History) (port : ℕ) (enode : List ℕ) →
    (has_moved w L port enode ≡ true) ↔ ((mac : List ℕ) × (b : Binding) × (bound w L mac ≡ Some b) × (b.enode ≡ enode) × (b.port ≢ port))

-- ---- data

-- An FC frame is on the VLAN, to the forwarder, and its source MAC is bound to this port and to its S_ID.
pub record IsOfLogin (w : Forwarder) (L : History) (port : ℕ) (f : eth.Eth) (x : capsule.Fcoe) : Type 0 where
  pub vlan : eth.vlan_of_tag f.tag ≡ w.vlan
  pub forwarder : f.dst ≡ w.mac
  pub binding : Binding
  pub bound_ : IsBound w L f.src binding
  pub port_ : binding.port ≡ port
  pub address : binding.address ≡ x.frame.head.s_id

-- The headline. A frame of FCoE goes up from the port of an ENode exactly where its body has no fault and it is so: the last grant
-- of its source MAC that passed down went to that port and was to its S_ID, and nothing ended it since.
abbrev pub DataGoesUp : Type 0
DataGoesUp =
    (w : Forwarder) (L : History) (port : ℕ) (caught : Caught) (f : eth.Eth) (read : Result capsule.Fcoe FcoeFault) → port ≢ FORWARDER_PORT → decoded caught ≡ Fcoe f read →
    (way_of w L port caught ≡ Up) ↔ ((x : capsule.Fcoe) × (read ≡ Ok x) × IsOfLogin w L port f x)

-- What comes on the port of an ENode goes to the forwarder's port or nowhere: no ENode gets what another one sent.
abbrev pub ENodesAreApart : Type 0
ENodesAreApart =
    (w : Forwarder) (L : History) (port : ℕ) (caught : Caught) (q : ℕ) → port ≢ FORWARDER_PORT → leads_to q (way_of w L port caught) ≡ true → q ≡ FORWARDER_PORT

-- An FC frame is on the VLAN, from the forwarder, and its destination MAC is bound to this port and to its D_ID.
pub record IsToLogin (w : Forwarder) (L : History) (port : ℕ) (f : eth.Eth) (x : capsule.Fcoe) : Type 0 where
  pub vlan : eth.vlan_of_tag f.tag ≡ w.vlan
  pub forwarder : f.src ≡ w.mac
  pub binding : Binding
  pub bound_ : IsBound w L f.dst binding
  pub port_ : binding.port ≡ port
  pub address : binding.address ≡ x.frame.head.d_id

-- A frame of FCoE from the forwarder's port goes to a port exactly where its body has no fault and it is so: the last grant of its
-- destination MAC that passed down went to that port and was to its D_ID, and nothing ended it since. No other port gets it.
abbrev pub DataGoesDown : Type 0
DataGoesDown =
    (w : Forwarder) (L : History) (port : ℕ) (caught : Caught) (f : eth.Eth) (read : Result capsule.Fcoe FcoeFault) (q : ℕ) → port ≡ FORWARDER_PORT → decoded caught ≡ Fcoe f read →
    (leads_to q (way_of w L port caught) ≡ true) ↔ ((x : capsule.Fcoe) × (read ≡ Ok x) × IsToLogin w L q f x)
