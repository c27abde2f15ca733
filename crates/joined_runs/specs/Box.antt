-- A forwarder, a bridge and a node that are joined by their files: what one of them left as a capture comes to another.
use Rattle.std.specs.Prelude.{◌≡◌, ◌≢◌, ℕ, ◌+◌, ◌^◌, ◌<◌, ◌⊎◌, true, List, [], ◌∷◌, length, Some}
use Rattle.fab_base.specs.Seen.{Seen}
use Rattle.fab_base.specs.declared.values.Caught.{Caught}
use Rattle.fab_base.specs.declared.values.Enode.{Enode}
use Rattle.fab_config.specs.Settings.{Settings}
use Rattle.pcap_file.specs.Capture.{IsCapture}
use Rattle.pcap_file.specs.declared.CaptureHead.{CaptureHead}
use Rattle.pcap_file.specs.declared.Record.{Record}
use Rattle.heard_frames.specs.Heard.{source, asked}
use Rattle.fab_policy.specs.Journal.{Journal, followed}
use Rattle.fab_policy.specs.Logins.{NPort, login, ends}
use Rattle.fab_policy.specs.Sound.{IsGrantable}
use Rattle.fab_policy.specs.declared.event.Event.{Event}
use Rattle.fab_policy.specs.declared.event.Event.TheVariants.{Frame}
use Rattle.fab_policy.specs.declared.verdict.Verdict.TheVariants.{Granted}
use Rattle.fip_snoop.specs.Ways.{FORWARDER_PORT}
use Rattle.enode_core.specs.declared.node.Identity.{Identity}
use Rattle.enode_core.specs.declared.node.Phase.TheVariants.{Up}
use Rattle.enode_core.specs.Laws.{IsAmong, HasGrant}
use Rattle.enode_core.specs.Runs.{stands}
use Rattle.fabric_tool.specs.Command.{RunNames, SnoopNames, EnodeNames}
use Rattle.fabric_tool.specs.Enode.{HasPlayed}
use Rattle.fabric_tool.specs.Inputs.{HasCapture}
use Rattle.fabric_tool.specs.Left.{HasRun}
use Rattle.fabric_tool.specs.Snooping.{HasSnooped}

-- ---- files

-- the files as a command found them, and as it left them
pub record Files : Type 0 where
  pub old : Seen
  pub new : Seen

-- a port's item of a list whose first item is that of some port
abbrev pub IsAt : {X : Type 0} → ℕ → List X → ℕ → X → Type 0
IsAt first [] port x = ⊥
IsAt first (y ∷ ys) port x = ((port ≡ first) × (x ≡ y)) ⊎ IsAt (first + 1) ys port x

-- A port of a command has these names, of what comes and of what is sent.
pub record IsPort (ins outs : List (List ℕ)) (port : ℕ) (input output : List ℕ) : Type 0 where
  pub comes : IsAt 1 ins port input
  pub goes : IsAt 1 outs port output

-- any frame, and one from this MAC
abbrev pub Any : Caught → Type 0
Any caught = Unit {0}

abbrev pub IsFrom : List ℕ → Caught → Type 0
IsFrom mac caught = source caught ≡ mac

-- Each such frame of a capture is one of another, of less than 4 GiB. Some may come later, more than once, in another order, or never.
pub record AreCarried (Such : Caught → Type 0) (sent came : List ℕ) : Type 0 where
  pub few : length sent < 2 ^ 32
  pub sent_head : CaptureHead
  pub sent_records : List Record
  pub sent_ : IsCapture sent_head sent_records sent
  pub came_head : CaptureHead
  pub came_records : List Record
  pub came_ : IsCapture came_head came_records came
  pub each : (r : Record) → IsAmong r came_records → Such r.caught → (s : Record) × IsAmong s sent_records × (s.caught ≡ r.caught)

-- A wire: what was found under a name is what was left under another, or such frames of it are carried from there.
pub record IsWire (Such : Caught → Type 0) (left : Seen) (output : List ℕ) (found : Seen) (input : List ℕ) : Type 0 where
  pub sent : List ℕ
  pub came : List ℕ
  pub left_ : left.file output ≡ Some sent
  pub found_ : found.file input ≡ Some came
  pub carries : (came ≡ sent) ⊎ AreCarried Such sent came

-- no frame of the capture under a name is from this MAC
abbrev pub IsFreeOf : List ℕ → Seen → List ℕ → Type 0
IsFreeOf mac d name = (records : List Record) (r : Record) → HasCapture d name records → IsAmong r records → IsFrom mac r.caught → ⊥

-- ---- a grant that stands

abbrev pub node_at : ℕ → Identity → Enode
node_at port own = record { port = port; mac = own.mac }

-- after this journal the address is that of the node on the port, under the node's port name
pub record Holds (J : Journal) (port : ℕ) (own : Identity) (a : ℕ) : Type 0 where
  pub port_ : NPort
  pub login_ : login a J ≡ Some port_
  pub enode : port_.enode ≡ node_at port own
  pub name : port_.name ≡ own.name

-- one of these entries ends the login of the address
pub record HasEnded (a : ℕ) (enode : Enode) (entries : List Event) : Type 0 where
  pub entry : Event
  pub among : IsAmong entry entries
  pub end : ends a enode entry ≡ true

-- The journal has a grant of the address on the port to the node's FLOGI with this OX_ID, which bears the node's port name. When it was
-- given nobody held the address, or the node itself did; and since then the node holds it, and so nobody else, unless an entry
-- behind the grant has ended that: a tick that lists the address, its logout, or another accepted FLOGI of the node.
pub record IsGranted (c : Settings) (J : Journal) (port : ℕ) (own : Identity) (a ox_id : ℕ) : Type 0 where
  pub grant : HasGrant port J own.mac a ox_id (λ before caught. (asked caught).port_name ≡ own.name)
  pub free : IsGrantable c grant.before port grant.caught a
  pub stands_ : (since later : List Event) → J ≡ followed (followed (Frame port grant.index grant.caught (Granted a) ∷ grant.before) since) later →
      Holds (followed (Frame port grant.index grant.caught (Granted a) ∷ grant.before) since) port own a ⊎ HasEnded a (node_at port own) since

-- ---- a forwarder and a node

-- A `run` ended, and an `enode` whose node is up with an address; and this is a port of that `run`.
pub record AreDone (run_names : RunNames) (node_names : EnodeNames) (port : ℕ) (run node : Files) : Type 0 where
  pub frames : ℕ
  pub entries : ℕ
  pub ran : HasRun run_names frames entries run.old run.new
  pub address : ℕ
  pub mac : List ℕ
  pub played : HasPlayed node_names node.old node.new (Up address mac)
  pub input : List ℕ
  pub output : List ℕ
  pub port_ : IsPort run_names.ins run_names.outs port input output

-- The journal of the `run` has granted the node the address that it is up with.
abbrev pub NodeIsGranted : (run_names : RunNames) (node_names : EnodeNames) (port : ℕ) (run node : Files) → AreDone run_names node_names port run node → Type 0
NodeIsGranted run_names node_names port run node d =
    IsGranted d.ran.settings d.ran.journal port node_names.own d.address (stands node_names.own node_names.start d.played.inputs).ox_id

-- They are joined: all that the node is given comes from the port, and all that the port takes from the node's MAC comes from the node.
pub record AreJoined (run_names : RunNames) (node_names : EnodeNames) (port : ℕ) (run node : Files) : Type 0 where
  pub done : AreDone run_names node_names port run node
  pub down : IsWire Any run.new done.output node.old node_names.from
  pub up : IsWire (IsFrom node_names.own.mac) node.new node_names.to run.old done.input

abbrev pub JoinedIsGranted : Type 0
JoinedIsGranted = (run_names : RunNames) (node_names : EnodeNames) (port : ℕ) (run node : Files) (j : AreJoined run_names node_names port run node) → NodeIsGranted run_names node_names port run node j.done

-- ---- and a bridge between them

-- They are joined over a `snoop`: its port of the forwarder's side to the port of the `run`, and the node to another port, which alone
-- has frames from the node's MAC.
pub record AreBridged (run_names : RunNames) (bridge_names : SnoopNames) (node_names : EnodeNames) (port far : ℕ) (run bridge node : Files) : Type 0 where
  pub done : AreDone run_names node_names port run node
  pub passes : ℕ
  pub drops : ℕ
  pub snooped : HasSnooped bridge_names passes drops bridge.old bridge.new
  pub near_input : List ℕ
  pub near_output : List ℕ
  pub near : IsPort bridge_names.ins bridge_names.outs FORWARDER_PORT near_input near_output
  pub far_input : List ℕ
  pub far_output : List ℕ
  pub far_ : IsPort bridge_names.ins bridge_names.outs far far_input far_output
  pub apart : far ≢ FORWARDER_PORT
  pub run_to_bridge : IsWire Any run.new done.output bridge.old near_input
  pub bridge_to_node : IsWire Any bridge.new far_output node.old node_names.from
  pub node_to_bridge : IsWire (IsFrom node_names.own.mac) node.new node_names.to bridge.old far_input
  pub bridge_to_run : IsWire (IsFrom node_names.own.mac) bridge.new near_output run.old done.input
  pub alone : (other : ℕ) (name : List ℕ) → IsAt 1 bridge_names.ins other name → other ≢ FORWARDER_PORT → other ≢ far → IsFreeOf node_names.own.mac bridge.old name

abbrev pub BridgedIsGranted : Type 0
BridgedIsGranted =
    (run_names : RunNames) (bridge_names : SnoopNames) (node_names : EnodeNames) (port far : ℕ) (run bridge node : Files) (b : AreBridged run_names bridge_names node_names port far run bridge node)
    → NodeIsGranted run_names node_names port run node b.done
