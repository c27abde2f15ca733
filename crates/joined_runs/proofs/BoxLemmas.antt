-- A node that is up was granted its address: what a forwarder and a node left, joined, and with a bridge between them.
use Rattle.std.proofs.Common.{◌≡◌, ℕ, inl, inr, List, [], ◌++◌, length, Some, refl, sym, ap, ◌∙◌, subst}
use Rattle.std.proofs.lemmas.List.{append-nil}
use Rattle.std.proofs.lemmas.Bool.Decides.{eqb_tells}
use Rattle.fab_base.specs.Seen.{Seen}
use Rattle.fab_base.specs.declared.values.Caught.{Caught}
use Rattle.fab_config.specs.Settings.{Settings}
use Rattle.fab_config.proofs.SoundLemmas.{decoded_sound}
use Rattle.pcap_file.specs.Capture.{head_bytes}
use Rattle.pcap_file.specs.declared.Record.{Record}
use Rattle.heard_frames.specs.Heard.{source, asked}
use Rattle.fab_policy.specs.Journal.{Journal}
use Rattle.fab_policy.specs.Outputs.{Sent}
use Rattle.fab_policy.specs.Text.{egress}
use Rattle.window_records.specs.Looks.{all_records}
use Rattle.fip_snoop.specs.Bridge.{Arrival, arrivals}
use Rattle.side_runs.specs.Copies.{capture}
use Rattle.fip_snoop.specs.Laws.{ENodesAreApart}
use Rattle.fip_snoop.specs.Messages.{forwarder_of}
use Rattle.fip_snoop.specs.Ways.{FORWARDER_PORT}
use Rattle.fip_snoop.specs.declared.forwarder.Forwarder.{Forwarder}
use Rattle.side_runs.specs.Laws.{TakenAreCaptures}
use Rattle.enode_core.specs.declared.node.Phase.{Phase}
use Rattle.enode_core.specs.declared.node.Phase.TheVariants.{Up}
use Rattle.enode_core.specs.declared.node.State.{State}
use Rattle.enode_core.specs.Laws.{IsAmong, IsOutput, HasGrant, whole}
use Rattle.enode_core.specs.Runs.{Sending, stands, all_sent}
use Rattle.fabric_tool.specs.Command.{RunNames, SnoopNames, EnodeNames}
use Rattle.fabric_tool.specs.Enode.{HasPlayed, task_of}
use Rattle.fabric_tool.specs.Inputs.{LIMITS}
use Rattle.fabric_tool.specs.Left.{HasRun}
use Rattle.fabric_tool.specs.Snooping.{HasSnooped}
use Rattle.joined_runs.specs.Box.{Any, IsFrom, Files, IsAt, AreDone, AreJoined, AreBridged, NodeIsGranted}
use Rattle.joined_runs.proofs.AmongLemmas.{at_one}
use Rattle.joined_runs.proofs.BackLemmas.{IsShort, written_of}
use Rattle.joined_runs.proofs.BridgeLemmas.{IsOfPort, came_from, copied, capture_is, passed_of, passed_among, moment, bytes}
use Rattle.joined_runs.proofs.HoldLemmas.{entry_followed, holds_since}
use Rattle.joined_runs.proofs.NodeLemmas.{up_there, node_taken}
use Rattle.joined_runs.proofs.RunLemmas.{file_at, sent_on, egress_is, sent_there, outputs_of, IsInput, input_at, frame_there, from_of, bytes_of}
use Rattle.joined_runs.proofs.StopLemmas.{input_within}
use Rattle.joined_runs.proofs.TakenLemmas.{IsTaken, taken_at}
use Rattle.joined_runs.proofs.WireLemmas.{short_of, taken_is, over, over_taken}

-- a frame of these bytes, as it was sent and as it was taken
sent_back : (l : List ℕ) (taken : Caught) → taken ≡ whole l → l ≡ taken.bytes
sent_back l taken e = sym (ap (λ (q : Caught). q.bytes) e)

pub output_as : (c : Settings) (n p : ℕ) (J : Journal) (l : List ℕ) (taken : Caught) → taken ≡ whole l → IsOutput c n p J l → IsOutput c n p J taken.bytes
output_as c n p J l taken e h = subst (IsOutput c n p J) (sent_back l taken e) h

-- the same where a frame came on one side of the bridge and is taken on the other
across : (l : List ℕ) (came : Caught) (taken other : Caught) → other ≡ whole came.bytes → came ≡ taken → taken ≡ whole l → other ≡ whole l
across l came taken other out is e = out ∙ ap (λ (q : Caught). whole q.bytes) (is ∙ e)

source_as : (came taken other : Caught) (mac : List ℕ) → other ≡ whole came.bytes → came ≡ taken → source other ≡ mac → source taken ≡ mac
source_as came taken other mac out is e = ap source (sym is) ∙ sym (ap source out) ∙ e

-- ---- a forwarder and a node

abbrev pub at_moment : Sent → ℕ
at_moment s = s.moment

abbrev pub of_frame : Sent → List ℕ
of_frame s = s.bytes

abbrev pub sent_when : Sending → ℕ
sent_when x = x.moment

abbrev pub sent_what : Sending → List ℕ
sent_what x = x.bytes

-- what `run` leaves on a port
pub run_left : (k : RunNames) (frames entries : ℕ) (old new : Seen) (r : HasRun k frames entries old new) (port : ℕ) (name : List ℕ) → IsAt 1 k.outs port name →
    new.file name ≡ Some (head_bytes ++ written_of at_moment of_frame (sent_on r.settings (length k.outs) port r.journal))
run_left k frames entries old new r port name at =
    file_at new.file (λ p. egress r.settings (length k.outs) p r.journal) 1 port k.outs name r.files.captures at ∙ ap (λ l. Some l) (egress_is r.settings (length k.outs) port r.journal)

-- what `enode` leaves
pub node_left : (k : EnodeNames) (old new : Seen) (last : Phase) (p : HasPlayed k old new last) → new.file k.to ≡ Some (head_bytes ++ written_of sent_when sent_what (all_sent k.own k.start p.inputs))
node_left k old new last p = p.output

module _ (run_names : RunNames) (node_names : EnodeNames) (port : ℕ) (run node : Files) (d : AreDone run_names node_names port run node) where
  abbrev frames_sent : List Sending
  frames_sent = all_sent node_names.own node_names.start d.played.inputs

  abbrev now : State
  now = stands node_names.own node_names.start d.played.inputs

  abbrev count : ℕ
  count = length run_names.outs

  -- what the forwarder takes on the port
  run_came : IsInput run.old d.input port d.ran.journal
  run_came = input_at run.old d.ran.journal 1 port run_names.ins (all_records d.ran.opened) d.input d.ran.captures d.ran.run.run.frames d.port_.comes

  run_short : IsShort run_came.capture.bytes
  run_short = short_of run_came.capture.bytes (input_within d.ran.settings run.old port run_names.ins d.ran.opened d.input run_came.capture.bytes d.ran.captures d.ran.none d.port_.comes run_came.capture.file)

  -- what the node is given
  node_came : TakenAreCaptures → IsTaken node.old.file node_names.from d.played.records LIMITS.bytes
  node_came are = node_taken are (task_of node_names) node.old node.new (Up d.address d.mac) d.played

  abbrev Hears : Type 0
  Hears = (r : Record) → IsAmong r d.played.records → IsOutput d.ran.settings count port d.ran.journal r.caught.bytes

  abbrev Takes : Type 0
  Takes = (r : Record) → IsAmong r run_came.records → source r.caught ≡ node_names.own.mac → (x : Sending) × IsAmong x frames_sent × (x.bytes ≡ r.caught.bytes)

  module _ (hears : Hears) (takes : Takes) where
    grant : HasGrant port d.ran.journal node_names.own.mac d.address now.ox_id (λ before caught. (asked caught).port_name ≡ node_names.own.name)
    grant =
        let up = up_there now.ox_id d.address d.mac now.stage d.played.stands_so in
        d.played.granted d.played.inputs [] up.kept d.address up.node_due up.port_due up.heard (sym (append-nil d.played.inputs)) up.is d.ran.settings count port d.ran.journal
        (decoded_sound d.ran.inputs.config.text d.ran.settings d.ran.inputs.config.value).range (bytes_of d.ran.journal d.ran.run.ranged) d.ran.safe.legal (outputs_of d.ran.settings count port d.ran.journal d.played.records hears)
        (from_of port node_names.own.mac frames_sent d.ran.journal (λ index caught v K at from.
        let f = frame_there run.old d.input port index caught v d.ran.journal K run_came at in
        let t = takes f.0 f.1 (ap source f.2 ∙ from) in
        (t.0, t.1, t.2 ∙ ap (λ (q : Caught). q.bytes) f.2)))

    granted : NodeIsGranted run_names node_names port run node d
    granted =
        let later = entry_followed d.ran.journal _ grant.before grant.stands in
        record {
          grant = grant;
          free = d.ran.safe.grants grant.before later.0 port grant.index d.address grant.caught later.1;
          stands_ = λ since more is. holds_since d.ran.settings d.ran.journal grant.before port grant.index d.address node_names.own grant.caught d.ran.safe grant.from grant.also since more is;
        }

-- ---- joined

module _ (are : TakenAreCaptures) (run_names : RunNames) (node_names : EnodeNames) (port : ℕ) (run node : Files) (j : AreJoined run_names node_names port run node) where
  abbrev both : AreDone run_names node_names port run node
  both = j.done

  joined_hears : Hears run_names node_names port run node both
  joined_hears r among =
      let s =
      over_taken at_moment of_frame (sent_on both.ran.settings (length run_names.outs) port both.ran.journal) Any run.new node.old both.output node_names.from j.down
      (run_left run_names both.frames both.entries run.old run.new both.ran port both.output both.port_.goes) both.played.records (node_came run_names node_names port run node both are) r among tt in
      output_as both.ran.settings (length run_names.outs) port both.ran.journal s.0.bytes r.caught s.2 (sent_there both.ran.settings (length run_names.outs) port both.ran.journal s.0 s.1)

  joined_takes : Takes run_names node_names port run node both
  joined_takes r among from =
      let came = run_came run_names node_names port run node both in
      let x =
      over sent_when sent_what (all_sent node_names.own node_names.start both.played.inputs) (IsFrom node_names.own.mac) node.new run.old node_names.to both.input j.up
      (node_left node_names node.old node.new (Up both.address both.mac) both.played) came.records came.capture (run_short run_names node_names port run node both) r among from in
      (x.0, x.1, sent_back x.0.bytes r.caught x.2)

  pub joined_is_granted : NodeIsGranted run_names node_names port run node both
  joined_is_granted = granted run_names node_names port run node both joined_hears joined_takes

-- ---- with a bridge between

-- what `snoop` leaves on a port
pub bridge_left : (k : SnoopNames) (passes drops : ℕ) (old new : Seen) (s : HasSnooped k passes drops old new) (port : ℕ) (name : List ℕ) → IsAt 1 k.outs port name →
    new.file name ≡ Some (head_bytes ++ written_of moment bytes (copied (forwarder_of s.settings) port [] (arrivals s.bridged.records)))
bridge_left k passes drops old new s port name at =
    file_at new.file (λ p. capture (forwarder_of s.settings) p (arrivals s.bridged.records)) 1 port k.outs name s.bridged.outputs at
    ∙ ap (λ l. Some l) (capture_is (forwarder_of s.settings) port (arrivals s.bridged.records))

module _
    (are : TakenAreCaptures) (sides : ENodesAreApart) (run_names : RunNames) (bridge_names : SnoopNames) (node_names : EnodeNames) (port far : ℕ) (run bridge node : Files)
    (b : AreBridged run_names bridge_names node_names port far run bridge node)
  where
    abbrev ends : AreDone run_names node_names port run node
    ends = b.done

    abbrev way_to : Forwarder
    way_to = forwarder_of b.snooped.settings

    abbrev came : List Arrival
    came = arrivals b.snooped.bridged.records

    -- a frame that the bridge handled is one of the capture of its port
    record IsHandled (x : Arrival) : Type 0 where
      of_port : IsOfPort 1 b.snooped.bridged.records x
      name : List ℕ
      at : IsAt 1 bridge_names.ins x.port name
      capture_ : IsTaken bridge.old.file name of_port.records LIMITS.bytes

    handled_of : (x : Arrival) → IsAmong x came → IsHandled x
    handled_of x among =
        let o = came_from b.snooped.bridged.records x among in
        let t = taken_at are bridge.old.file 1 x.port LIMITS bridge_names.ins b.snooped.bridged.records o.records b.snooped.bridged.taken o.at in
        record { of_port = o; name = t.0; at = t.1; capture_ = t.2 }

    named_as : (x : Arrival) (h : IsHandled x) (q : ℕ) (name : List ℕ) → x.port ≡ q → IsAt 1 bridge_names.ins q name → IsTaken bridge.old.file name h.of_port.records LIMITS.bytes
    named_as x h q name is at =
        let same : h.name ≡ name = at_one 1 bridge_names.ins q h.name name (subst (λ p. IsAt 1 bridge_names.ins p h.name) is h.at) at in
        subst (λ n. IsTaken bridge.old.file n h.of_port.records LIMITS.bytes) same h.capture_

    -- what the node hears came to the bridge from the forwarder
    bridged_hears : Hears run_names node_names port run node ends
    bridged_hears r among =
        let there =
        over_taken moment bytes (copied way_to far [] came) Any bridge.new node.old b.far_output node_names.from b.bridge_to_node
        (bridge_left bridge_names b.passes b.drops bridge.old bridge.new b.snooped far b.far_output b.far_.goes) ends.played.records (node_came run_names node_names port run node ends are) r among tt in
        let x = there.0 in
        let p = passed_of sides way_to far came x there.1 in
        let h = handled_of x (passed_among way_to came far x p) in
        let near = named_as x h FORWARDER_PORT b.near_input (p.from_forwarder b.apart) b.near.comes in
        let s =
        over_taken at_moment of_frame (sent_on ends.ran.settings (length run_names.outs) port ends.ran.journal) Any run.new bridge.old ends.output b.near_input b.run_to_bridge
        (run_left run_names ends.frames ends.entries run.old run.new ends.ran port ends.output ends.port_.goes) h.of_port.records near h.of_port.r h.of_port.among tt in
        output_as ends.ran.settings (length run_names.outs) port ends.ran.journal s.0.bytes r.caught (across s.0.bytes x.caught h.of_port.r.caught r.caught there.2 h.of_port.frame s.2)
        (sent_there ends.ran.settings (length run_names.outs) port ends.ran.journal s.0 s.1)

    -- what the forwarder takes from the node's MAC came to the bridge from the node
    bridged_takes : Takes run_names node_names port run node ends
    bridged_takes r among from =
        let taken = run_came run_names node_names port run node ends in
        let there =
        over moment bytes (copied way_to FORWARDER_PORT [] came) (IsFrom node_names.own.mac) bridge.new run.old b.near_output ends.input b.bridge_to_run
        (bridge_left bridge_names b.passes b.drops bridge.old bridge.new b.snooped FORWARDER_PORT b.near_output b.near.goes) taken.records taken.capture (run_short run_names node_names port run node ends) r among from in
        let x = there.0 in
        let p = passed_of sides way_to FORWARDER_PORT came x there.1 in
        let h = handled_of x (passed_among way_to came FORWARDER_PORT x p) in
        let source_is = source_as x.caught h.of_port.r.caught r.caught node_names.own.mac there.2 h.of_port.frame from in
        elim (eqb_tells x.port far) [
          | inl is ↦
              let s =
              over_taken sent_when sent_what (all_sent node_names.own node_names.start ends.played.inputs) (IsFrom node_names.own.mac) node.new bridge.old node_names.to b.far_input b.node_to_bridge
              (node_left node_names node.old node.new (Up ends.address ends.mac) ends.played) h.of_port.records (named_as x h far b.far_input is.1 b.far_.comes) h.of_port.r h.of_port.among source_is in
              (s.0, s.1, sent_back s.0.bytes r.caught (across s.0.bytes x.caught h.of_port.r.caught r.caught there.2 h.of_port.frame s.2))
          | inr not ↦ absurd (b.alone x.port h.name h.at (p.from_enode refl) not.1 h.of_port.records h.of_port.r (taken_is bridge.old h.name h.of_port.records LIMITS.bytes h.capture_) h.of_port.among
              source_is)
        ]

    pub bridged_is_granted : NodeIsGranted run_names node_names port run node ends
    bridged_is_granted = granted run_names node_names port run node ends bridged_hears bridged_takes
