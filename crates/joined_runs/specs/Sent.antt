-- What three commands leave in their captures, frame by frame. A capture of 4 GiB and more isn't spoken of.
use Rattle.std.specs.Prelude.{◌≡◌, ◌≢◌, ℕ, ◌^◌, ◌<◌, true, List, [], ◌∷◌, ◌++◌, length}
use Rattle.fab_base.specs.Seen.{Seen}
use Rattle.pcap_file.specs.declared.Record.{Record}
use Rattle.fip_snoop.specs.Bridge.{Arrival, arrivals, history, leads_to}
use Rattle.fip_snoop.specs.Messages.{forwarder_of}
use Rattle.fip_snoop.specs.Ways.{FORWARDER_PORT, way_of}
use Rattle.fip_snoop.specs.declared.forwarder.Forwarder.{Forwarder}
use Rattle.enode_core.specs.Laws.{IsAmong, IsOutput, whole}
use Rattle.enode_core.specs.Runs.{Sending, all_sent}
use Rattle.enode_core.specs.declared.node.Phase.{Phase}
use Rattle.fabric_tool.specs.Command.{RunNames, SnoopNames, EnodeNames}
use Rattle.fabric_tool.specs.Enode.{HasPlayed}
use Rattle.fabric_tool.specs.Inputs.{HasCapture}
use Rattle.fabric_tool.specs.Left.{HasRun}
use Rattle.fabric_tool.specs.Snooping.{HasSnooped}
use Rattle.joined_runs.specs.Box.{IsAt}

-- ---- `run`

-- Each record of the capture of a port is a frame that the journal sends there.
abbrev pub RunSends : Type 0
RunSends =
    (k : RunNames) (frames entries : ℕ) (old new : Seen) (r : HasRun k frames entries old new) (port : ℕ) (name : List ℕ) (records : List Record) (f : HasCapture new name records) (x : Record) →
    IsAt 1 k.outs port name → length f.bytes < 2 ^ 32 → IsAmong x records → IsOutput r.settings (length k.outs) port r.journal x.caught.bytes

-- ---- `enode`

-- Each record is a frame that the node sent.
abbrev pub EnodeSends : Type 0
EnodeSends =
    (k : EnodeNames) (old new : Seen) (last : Phase) (p : HasPlayed k old new last) (records : List Record) (f : HasCapture new k.to records) (x : Record) →
    length f.bytes < 2 ^ 32 → IsAmong x records → (s : Sending) × IsAmong s (all_sent k.own k.start p.inputs) × (x.caught ≡ whole s.bytes)

-- ---- `snoop`

-- A frame came whose way leads to a port, by what was handled before it. If that is the forwarder's port it came from an ENode's, and
-- else from the forwarder's.
pub record IsPassed (w : Forwarder) (came : List Arrival) (port : ℕ) (a : Arrival) : Type 0 where
  pub before : List Arrival
  pub later : List Arrival
  pub are : came ≡ before ++ a ∷ later
  pub leads : leads_to port (way_of w (history w [] before) a.port a.caught) ≡ true
  pub from_enode : port ≡ FORWARDER_PORT → a.port ≢ FORWARDER_PORT
  pub from_forwarder : port ≢ FORWARDER_PORT → a.port ≡ FORWARDER_PORT

-- Each record of the capture of a port is a copy of such a frame.
abbrev pub SnoopSends : Type 0
SnoopSends =
    (k : SnoopNames) (passes drops : ℕ) (old new : Seen) (s : HasSnooped k passes drops old new) (port : ℕ) (name : List ℕ) (records : List Record) (f : HasCapture new name records) (x : Record) →
    IsAt 1 k.outs port name → length f.bytes < 2 ^ 32 → IsAmong x records → (a : Arrival) × IsPassed (forwarder_of s.settings) (arrivals s.bridged.records) port a × (x.caught ≡ whole a.caught.bytes)
