-- How `snoop` ends: the frames of all captures cross a bridge, and each port's are written.
use Rattle.std.specs.Prelude.{◌≡◌, ◌≢◌, ℕ, ◌⊎◌, ◌↔◌, true, IsTrue, List, [], ◌∷◌, ◌++◌, map, Result, Ok}
use Rattle.fab_base.specs.Seen.{Seen, SameFiles, Rose}
use Rattle.fab_base.specs.Sunk.{Sunk}
use Rattle.fab_config.specs.Settings.{Settings}
use Rattle.eth_frames.specs.Ethernet as eth
use Rattle.fcoe_codec.specs.Fcoe as capsule
use Rattle.fcoe_codec.specs.declared.FcoeFault.{FcoeFault}
use Rattle.heard_frames.specs.Heard.{Fcoe, decoded}
use Rattle.pcap_file.specs.declared.fault.GatherFault.{GatherFault}
use Rattle.pcap_file.specs.declared.fault.GatherFault.TheVariants as gather
use Rattle.fip_snoop.specs.Bridge.{Arrival, arrivals, history, leads_to, passed, dropped}
use Rattle.fip_snoop.specs.Laws.{IsOfLogin, IsToLogin}
use Rattle.fip_snoop.specs.Messages.{forwarder_of}
use Rattle.fip_snoop.specs.Ways.{FORWARDER_PORT, way_of}
use Rattle.fip_snoop.specs.declared.forwarder.Forwarder.{Forwarder}
use Rattle.fip_snoop.specs.declared.way.Way.TheVariants.{Up}
use Rattle.side_runs.specs.Bridged.{HasBridged, HasFronts, HasStop}
use Rattle.side_runs.specs.Crossing.{crossing, IsFirstUnread}
use Rattle.fabric_tool.specs.Command.{SnoopNames}
use Rattle.fabric_tool.specs.Ending.{Ending, Never, Untouched, Leaves, Unread, Unwritten}
use Rattle.fabric_tool.specs.Inputs.{HasConfig, HasFault, LIMITS}
use Rattle.fabric_tool.specs.Outcome.{bridged_text}
use Rattle.fabric_tool.specs.declared.outcome.Outcome.{Outcome}
use Rattle.fabric_tool.specs.declared.outcome.Outcome.TheVariants as ends
use Rattle.fabric_tool.specs.Meaning.{Meaning}

-- what the captures of the ports are to a bridge: the frames in the order in which they are handled, or why they aren't
abbrev pub crossing_of : SnoopNames → Seen → Result (List Arrival) GatherFault
crossing_of k d = crossing LIMITS (map (λ n. d.file n) k.ins)

-- Of each frame of FCoE that came in on the port of an ENode, what was handled before it decides: it goes up exactly where its body
-- has no fault, it is on the VLAN and to the forwarder, and the last grant of its source MAC that passed down went to that port and
-- was to its S_ID, and nothing ended it since.
abbrev pub DataGoesByLogins : Forwarder → List Arrival → Type 0
DataGoesByLogins w came =
    (before later : List Arrival) (a : Arrival) (f : eth.Eth) (read : Result capsule.Fcoe FcoeFault) → came ≡ before ++ a ∷ later → a.port ≢ FORWARDER_PORT → decoded a.caught ≡ Fcoe f read →
    let L = history w [] before in (way_of w L a.port a.caught ≡ Up) ↔ ((x : capsule.Fcoe) × (read ≡ Ok x) × IsOfLogin w L a.port f x)

-- Of each frame of FCoE that came in on the forwarder's port, what was handled before it decides: it goes to a port exactly where
-- its body has no fault, it is on the VLAN and from the forwarder, and the last grant of its destination MAC that passed down went to
-- that port and was to its D_ID, and nothing ended it since.
abbrev pub DataGoesDownByLogins : Forwarder → List Arrival → Type 0
DataGoesDownByLogins w came =
    (before later : List Arrival) (a : Arrival) (f : eth.Eth) (read : Result capsule.Fcoe FcoeFault) (q : ℕ) → came ≡ before ++ a ∷ later → a.port ≡ FORWARDER_PORT → decoded a.caught ≡ Fcoe f read →
    let L = history w [] before in (leads_to q (way_of w L a.port a.caught) ≡ true) ↔ ((x : capsule.Fcoe) × (read ≡ Ok x) × IsToLogin w L q f x)

-- What came in on the port of an ENode goes to the forwarder's port or nowhere: no ENode gets what another one sent.
abbrev pub NoneReachesAnother : Forwarder → List Arrival → Type 0
NoneReachesAnother w came =
    (before later : List Arrival) (a : Arrival) (q : ℕ) → came ≡ before ++ a ∷ later → a.port ≢ FORWARDER_PORT →
    leads_to q (way_of w (history w [] before) a.port a.caught) ≡ true → q ≡ FORWARDER_PORT

-- ---- what holds where it ends so

-- The headline. Of the files as the call found them, the configuration has a value and each input is a capture within the limits;
-- each output is the head and, in the order in which the frames of all captures are handled, a record of the unchanged bytes of each
-- frame whose way leads to its port, the ways being those of the table over what was handled before; data goes up and down by logins,
-- and no ENode gets what another one sent.
pub record HasSnooped (k : SnoopNames) (passes drops : ℕ) (old new : Seen) : Type 0 where
  pub settings : Settings
  pub config : HasConfig old k.config settings
  pub bridged : HasBridged k.ins k.outs LIMITS settings old new (record { passed = passes; dropped = drops })
  pub data_ : DataGoesByLogins (forwarder_of settings) (arrivals bridged.records)
  pub down : DataGoesDownByLogins (forwarder_of settings) (arrivals bridged.records)
  pub apart : NoneReachesAnother (forwarder_of settings) (arrivals bridged.records)

-- The inputs are taken, and each output is as it was, or holds a front of what it would hold.
pub record HasSnoopedFront (k : SnoopNames) (old new : Seen) : Type 0 where
  pub settings : Settings
  pub config : HasConfig old k.config settings
  pub fronts : HasFronts k.ins k.outs LIMITS settings old new

-- The configuration has a value, and the captures aren't taken for this reason: the first of them, in port order, that isn't, or
-- the span of all.
pub record IsSnoopStopped (k : SnoopNames) (d : Seen) (fault : GatherFault) : Type 0 where
  pub settings : Settings
  pub config : HasConfig d k.config settings
  pub stops : HasStop k.ins LIMITS d fault

-- The configuration has a value, and of the captures one couldn't be read; those before it are taken.
pub record IsCaptureUnread (k : SnoopNames) (old new : Seen) : Type 0 where
  pub settings : Settings
  pub config : HasConfig old k.config settings
  pub first : IsFirstUnread k.ins LIMITS old new

-- Which input of `snoop` couldn't be read, where what is read before it has its form: the configuration, or a capture.
abbrev pub IsSnoopUnread : SnoopNames → Seen → Seen → Type 0
IsSnoopUnread k old new = Rose (old.read_faults k.config) (new.read_faults k.config) ⊎ IsCaptureUnread k old new

-- What holds where `snoop` ends so. The outputs are opened only behind the whole inputs. What is said of bytes needs a depot that
-- tells them. No fault of the depot is passed over: where it isn't told, no count of such faults has changed.
abbrev pub snoop_ending : SnoopNames → Seen → Seen → Outcome → Ending
snoop_ending k old new (ends.Bridged passes drops) = Leaves (HasSnooped k passes drops old new)
snoop_ending k old new (ends.Config fault) = Untouched (HasFault old k.config fault)
snoop_ending k old new (ends.Capture port at why) = Untouched (IsSnoopStopped k old (gather.Capture port at why))
snoop_ending k old new (ends.Limit kind) = Untouched (IsSnoopStopped k old (gather.Limit kind))
snoop_ending k old new ends.ReadFault = Unread (IsSnoopUnread k old new)
snoop_ending k old new ends.WriteFault = Unwritten (HasSnoopedFront k old new)
snoop_ending k old new ends.Memory = Leaves (SameFiles old new ⊎ HasSnoopedFront k old new)
snoop_ending k old new _ = Never

-- ---- by status

-- Status 0: the outputs are so, and the line with the two numbers was printed.
pub record SnoopEnded (k : SnoopNames) (old new : Seen) (before after : Sunk) : Type 0 where
  pub passes : ℕ
  pub drops : ℕ
  pub done : HasSnooped k passes drops old new
  pub printed : IsTrue before.told → after.written ≡ before.written ++ bridged_text passes drops

-- Whatever the end: every file is as it was, or each output is as it was or holds a front of what it would hold.
abbrev pub HasSnoopFront : SnoopNames → Seen → Seen → Type 0
HasSnoopFront k old new = SameFiles old new ⊎ HasSnoopedFront k old new

-- ---- where nothing fails

-- the inputs have their forms
pub record SnoopForms (k : SnoopNames) (d : Seen) : Type 0 where
  pub told : IsTrue d.told
  pub settings : Settings
  pub config : HasConfig d k.config settings
  pub came : List Arrival
  pub crosses : crossing_of k d ≡ Ok came

-- the inputs have their forms, and so many frames pass and are dropped
pub record HasCrossed (k : SnoopNames) (d : Seen) (passes drops : ℕ) : Type 0 where
  pub settings : Settings
  pub config : HasConfig d k.config settings
  pub came : List Arrival
  pub crosses : crossing_of k d ≡ Ok came
  pub passed_ : passes ≡ passed (history (forwarder_of settings) [] came)
  pub dropped_ : drops ≡ dropped (history (forwarder_of settings) [] came)

-- the outcome that the inputs name: the fault of the configuration, why the captures aren't taken, or the two numbers
abbrev pub SnoopSays : SnoopNames → Seen → Outcome → Type 0
SnoopSays k d (ends.Bridged passes drops) = HasCrossed k d passes drops
SnoopSays k d (ends.Config fault) = HasFault d k.config fault
SnoopSays k d (ends.Capture port at why) = IsSnoopStopped k d (gather.Capture port at why)
SnoopSays k d (ends.Limit kind) = IsSnoopStopped k d (gather.Limit kind)
SnoopSays k d _ = ⊥

-- ---- the command

abbrev pub snoop_meaning : SnoopNames → Meaning
snoop_meaning k = record {
  reads = k.config ∷ k.ins;
  writes = k.outs;
  end = snoop_ending k;
  Done = λ old new before after. IsTrue old.told → SnoopEnded k old new before after;
  Front = HasSnoopFront k;
  Forms = SnoopForms k;
  Says = SnoopSays k;
}
