-- How long a node stays up, and what it sends while it is (FC-BB-5, "FIP keep alive").
use Rattle.std.specs.Prelude.{◌≡◌, ℕ, ◌+◌, ◌*◌, ◌<◌, ◌≤◌, ◌⊎◌, Bool, true, false, List, [], ◌∷◌, ◌++◌, Option}
use Rattle.fab_base.specs.declared.values.Caught.{Caught}
use Rattle.pcap_file.specs.declared.Record.{Record}
use Rattle.eth_frames.specs.Ethernet as eth
use Rattle.fip_codec.specs.Message as fip
use Rattle.heard_frames.specs.Heard.{Fip, decoded}
use Rattle.heard_frames.specs.Rows.{ALL_ENODES}
use Rattle.enode_core.specs.declared.node.Identity.{Identity}
use Rattle.enode_core.specs.declared.node.Kept.{Kept}
use Rattle.enode_core.specs.declared.node.Stage.{Stage}
use Rattle.enode_core.specs.declared.node.Stage.TheVariants.{Asking, Looking, Logging, Up}
use Rattle.enode_core.specs.declared.node.State.{State}
use Rattle.enode_core.specs.Frames.{fpma, framed, node_keep, port_keep}
use Rattle.enode_core.specs.Laws.{IsAmong, IsWanted}
use Rattle.enode_core.specs.Machine.{due, begun}
use Rattle.enode_core.specs.Runs.{Input, Timer, Heard, Sending, turn, after, sent, heard, stands, all_sent}

-- ---- silence

abbrev pub is_advertisement : fip.Fip → Bool
is_advertisement (fip.Advertise _ _ _ _ _ _ _ _ _ _ _) = true
is_advertisement _ = false

-- A captured frame reads as an advertisement of the kept forwarder: on the node's VLAN, from the kept MAC, to the node or to all.
pub record IsHeardOf (caught : Caught) (own : Identity) (vlan : ℕ) (kept : Kept) : Type 0 where
  pub frame : eth.Eth
  pub message : fip.Fip
  pub reads : decoded caught ≡ Fip frame message
  pub advertises : is_advertisement message ≡ true
  pub on_vlan : eth.vlan_of_tag frame.tag ≡ vlan
  pub from : frame.src ≡ kept.mac
  pub to : (frame.dst ≡ own.mac) ⊎ (frame.dst ≡ ALL_ENODES)

-- No timer of a node that stands so is due by this moment. In a run timers come before the records of their moment (`Plays`), so
-- a node stands so from its last input to this moment, if no other frame comes.
abbrev pub IsBefore : State → ℕ → Type 0
IsBefore s m = m < due s.stage

-- At each moment at which a node is up, one of the records that it was given is an advertisement of its forwarder or the accept of
-- its FLOGI, and no more than two and a half periods have passed since then.
abbrev pub UpIsHeard : Type 0
UpIsHeard = (own : Identity) (start : ℕ) (inputs : List Input) (m : ℕ) (kept : Kept) (a node_due port_due at : ℕ) →
    let s = stands own start inputs in
    s.stage ≡ Up kept a node_due port_due at → IsBefore s m →
    (r : Record) × IsAmong r (heard inputs) × (IsHeardOf r.caught own s.vlan kept ⊎ IsWanted r.caught own s.vlan s.ox_id kept a) × (2 * m ≤ 2 * r.moment + 5 * kept.period)

-- ---- keep alives

abbrev pub IsUp : Stage → Type 0
IsUp (Asking at) = ⊥
IsUp (Looking at) = ⊥
IsUp (Logging kept at) = ⊥
IsUp (Up kept a node_due port_due at) = Unit {0}

-- a node is up, and stays so at each of these inputs
abbrev pub StaysUp : Identity → State → List Input → Type 0
StaysUp own s [] = IsUp s.stage
StaysUp own s (i ∷ more) = IsUp s.stage × StaysUp own (turn own s i).state more

-- These are the keep alives of a node that is up with an address, and no other frame is among them: its own one by one, a period
-- apart, from one moment on, and those of its VN_Port 90 s apart; in the order of their moments. The next ones are then due.
abbrev pub AreAlives : Identity → ℕ → Kept → ℕ → ℕ → ℕ → List Sending → ℕ → ℕ → Type 0
AreAlives own vlan kept a node_due port_due [] next_node next_port = (node_due ≡ next_node) × (port_due ≡ next_port)
AreAlives own vlan kept a node_due port_due (x ∷ more) next_node next_port =
    ((x ≡ record { moment = node_due; bytes = node_keep own vlan kept }) × (node_due ≤ port_due) × AreAlives own vlan kept a (node_due + kept.period) port_due more next_node next_port)
    ⊎ ((x ≡ record { moment = port_due; bytes = port_keep own vlan kept a }) × (port_due ≤ node_due) × AreAlives own vlan kept a node_due (port_due + 90000) more next_node next_port)

-- Only a frame brings a node up, and its keep alives are due a period and 90 s later.
abbrev pub UpBegins : Type 0
UpBegins = (own : Identity) (s : State) (i : Input) (kept : Kept) (a node_due port_due at : ℕ) →
    (IsUp s.stage → ⊥) → (turn own s i).state.stage ≡ Up kept a node_due port_due at →
    (r : Record) × (i ≡ Heard r) × (node_due ≡ r.moment + kept.period) × (port_due ≡ r.moment + 90000)

-- While a node stays up its forwarder and its address stay, and what it sends are its keep alives alone, each when it is due.
abbrev pub UpSendsAlives : Type 0
UpSendsAlives = (own : Identity) (s : State) (inputs : List Input) (kept next_kept : Kept) (a node_due port_due at b next_node next_port last : ℕ) →
    s.stage ≡ Up kept a node_due port_due at → StaysUp own s inputs → (after own s inputs).stage ≡ Up next_kept b next_node next_port last →
    (next_kept ≡ kept) × (b ≡ a) × AreAlives own s.vlan kept a node_due port_due (sent own s inputs) next_node next_port

-- ---- who speaks

-- these bytes are a frame of FIP with this source MAC
pub record GoesFrom (mac bytes : List ℕ) : Type 0 where
  pub tag : Option ℕ
  pub dst : List ℕ
  pub message : fip.Fip
  pub is : bytes ≡ framed tag dst mac message

-- Of what a node that stands so sends at these inputs, a frame goes from a granted MAC, at a timer while the node is up with it.
pub record IsSentUp (own : Identity) (s : State) (inputs : List Input) (x : Sending) : Type 0 where
  pub before : List Input
  pub later : List Input
  pub are : inputs ≡ before ++ Timer ∷ later
  pub kept : Kept
  pub address : ℕ
  pub node_due : ℕ
  pub port_due : ℕ
  pub at : ℕ
  pub up : (after own s before).stage ≡ Up kept address node_due port_due at
  pub moment_ : x.moment ≡ due (after own s before).stage
  pub from : GoesFrom (fpma kept address) x.bytes

-- Each frame that a node sends goes from its own MAC, or from a granted one while it is up with it.
abbrev pub OnlyUpIsGranted : Type 0
OnlyUpIsGranted = (own : Identity) (start : ℕ) (inputs : List Input) (x : Sending) → IsAmong x (all_sent own start inputs) → GoesFrom own.mac x.bytes ⊎ IsSentUp own (begun own start).state inputs x
