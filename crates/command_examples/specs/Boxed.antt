-- A node that is up behind a bridge: what `run`, `snoop` and `enode` leave, each over what the others left.
use Rattle.std.specs.Prelude.{◌≡◌, ℕ, ◌-◌, ◌<◌, nat_le, ◌||◌, true, false, List, [], ◌∷◌, ◌++◌, flat_map, codes, Some, Ok, refl}
use Rattle.std.specs.Fmt as fmt
use Rattle.std.proofs.Common.{inl, arith, lit≤, lit<, ap}
use Rattle.std.proofs.lemmas.Bool.{lt-leb}
use Rattle.fab_base.specs.declared.values.Caught.{Caught}
use Rattle.pcap_file.specs.Capture as pcap
use Rattle.pcap_file.specs.Capture.{head_bytes, record_bytes, head_decoded}
use Rattle.pcap_file.specs.declared.Record.{Record}
use Rattle.eth_frames.specs.Ethernet as eth
use Rattle.fc_frames.specs.Frame as fc
use Rattle.fip_codec.specs.Message as fip
use Rattle.fip_codec.specs.Reading as reading
use Rattle.els_messages.specs.Els as els
use Rattle.heard_frames.specs.Heard as heard
use Rattle.fab_policy.specs.Replies as replies
use Rattle.enode_core.specs.declared.node.Identity.{Identity}
use Rattle.enode_core.specs.declared.node.Kept.{Kept}
use Rattle.enode_core.specs.declared.node.Phase.TheVariants as phase
use Rattle.enode_core.specs.Frames as frames
use Rattle.enode_core.specs.Phases.{phase_of}
use Rattle.enode_core.specs.Runs as runs
use Rattle.side_runs.specs.Course as course
use Rattle.pcap_file.specs.Captures.{capture_by, captures_by}
use Rattle.side_runs.specs.NodeFiles.{taken_by}
use Rattle.fabric_tool.specs.Inputs.{LIMITS}
use Rattle.fip_snoop.specs.Bridge as bridge
use Rattle.fip_snoop.specs.Messages.{forwarder_of}
use Rattle.fip_snoop.specs.Ways as ways
use Rattle.side_runs.specs.Crossing.{captures}
use Rattle.fab_policy.specs.Journal.{Journal}
use Rattle.fab_policy.specs.Legal as legal
use Rattle.fab_policy.specs.Outputs as outputs
use Rattle.fab_policy.specs.Rules as rules
use Rattle.fab_policy.specs.Text as text
use Rattle.fab_policy.specs.Verdicts as verdicts
use Rattle.fab_policy.specs.declared.event.Event.TheVariants.{Tick, Frame}
use Rattle.fab_policy.specs.declared.verdict.Verdict.TheVariants.{Vlans, Advertised, Granted}
use Rattle.command_examples.specs.Store.{K}

-- ---- the frames

abbrev pub own : Identity
own = record { mac = 0 ∷ 0x1b ∷ 0x21 ∷ 0 ∷ 0 ∷ 0x0a ∷ []; name = 0x2000001b2100000a; node = 0x1000001b2100000a }

abbrev pub kept : Kept
kept = record { mac = K.fcf_mac; fc_map = K.fc_map; period = K.period }

abbrev pub whole : List ℕ → Caught
whole bytes = record { bytes = bytes; whole = true }

abbrev pub at : ℕ → List ℕ → Record
at moment bytes = record { moment = moment; caught = whole bytes }

-- what the node sends: its requests, its solicitation and its FLOGI
abbrev pub request : List ℕ
request = frames.vlan_request own

abbrev pub solicitation : List ℕ
solicitation = frames.solicitation own 100

abbrev pub flogi : List ℕ
flogi = frames.flogi own 100 kept 1

-- what the forwarder answers to them
abbrev pub notice : List ℕ
notice = replies.vlan_notice K (whole request)

abbrev pub advertisement : List ℕ
advertisement = replies.advertised_to_one K (whole solicitation)

abbrev pub accept : List ℕ
accept = replies.login_accept K 1 (whole flogi) 0x010100

-- The node asks twice, since the bridge doesn't know where it is before its first request went up. All else is at one moment.
abbrev pub requests : List Record
requests = at 1000 request ∷ at 2000 request ∷ at 2000 solicitation ∷ at 2000 flogi ∷ []

abbrev pub answers : List Record
answers = at 1000 notice ∷ at 2000 notice ∷ at 2000 advertisement ∷ at 2000 accept ∷ []

-- what passes the bridge of the answers
abbrev pub passed : List Record
passed = at 2000 notice ∷ at 2000 advertisement ∷ at 2000 accept ∷ []

-- ---- the node

abbrev pub inputs : List runs.Input
inputs = runs.Timer ∷ runs.Heard (at 2000 notice) ∷ runs.Heard (at 2000 advertisement) ∷ runs.Heard (at 2000 accept) ∷ []

pub node_run : runs.IsRun own 1000 passed inputs
unfolding heard.decoded heard.carried heard.is_flogi eth.decoded reading.decoded fc.decoded els.decoded fip.written els.written
node_run = (lit≤ tt, (refl, lit< tt, (refl, lit< tt, (refl, lit< tt, refl))))

abbrev pub sent_at : ℕ → List ℕ → runs.Sending
sent_at moment bytes = record { moment = moment; bytes = bytes }

pub node_sends : runs.all_sent own 1000 inputs ≡ sent_at 1000 request ∷ sent_at 2000 request ∷ sent_at 2000 solicitation ∷ sent_at 2000 flogi ∷ []
unfolding heard.decoded heard.carried heard.is_flogi eth.decoded reading.decoded fc.decoded els.decoded fip.written els.written
node_sends = refl

pub node_is_up : phase.Up 0x010100 (0x0e ∷ 0xfc ∷ 0 ∷ 1 ∷ 1 ∷ 0 ∷ []) ≡ phase_of (runs.stands own 1000 inputs)
unfolding heard.decoded heard.carried heard.is_flogi eth.decoded reading.decoded fc.decoded els.decoded fip.written els.written
node_is_up = refl

pub node_ox_id : (runs.stands own 1000 inputs).ox_id ≡ 1
unfolding heard.decoded heard.carried heard.is_flogi eth.decoded reading.decoded fc.decoded els.decoded fip.written els.written
node_ox_id = refl

-- ---- captures

abbrev pub capture_of : List Record → List ℕ
capture_of records = head_bytes ++ flat_map (λ r. record_bytes r.moment r.caught.bytes) records

pub node_leaves : course.capture (runs.all_sent own 1000 inputs) ≡ capture_of requests
node_leaves = ap course.capture node_sends

pub passed_is_taken : taken_by LIMITS 1000 (capture_of passed) ≡ Ok passed
unfolding capture_by head_decoded pcap.next heard.carried eth.decoded reading.decoded fc.decoded els.decoded fip.written els.written
passed_is_taken = refl

-- ---- the bridge

pub both_are_taken : captures_by 1 LIMITS (Some (capture_of answers) ∷ Some (capture_of requests) ∷ []) ≡ Ok (answers ∷ requests ∷ [])
unfolding capture_by head_decoded pcap.next heard.carried eth.decoded reading.decoded fc.decoded els.decoded fip.written els.written
both_are_taken = refl

abbrev pub came : List bridge.Arrival
came = bridge.arrivals (answers ∷ requests ∷ [])

pub no_span : bridge.is_too_long came ≡ false
no_span = refl

-- the first notice goes nowhere, and all that comes then passes
pub bridge_leaves : captures K 2 came ≡ capture_of requests ∷ capture_of passed ∷ []
unfolding ways.way_of heard.decoded heard.carried eth.decoded reading.decoded fc.decoded els.decoded fip.written els.written
bridge_leaves = refl

pub bridge_counts : (7 ≡ bridge.passed (bridge.history (forwarder_of K) [] came)) × (1 ≡ bridge.dropped (bridge.history (forwarder_of K) [] came))
unfolding ways.way_of heard.decoded heard.carried eth.decoded reading.decoded fc.decoded els.decoded fip.written els.written
bridge_counts = (refl, refl)

-- ---- the forwarder

abbrev pub J : Journal
J = Frame 1 3 (whole flogi) (Granted 0x010100) ∷ Frame 1 2 (whole solicitation) Advertised ∷ Frame 1 1 (whole request) Vlans ∷ Tick 2000 [] ∷ Frame 1 0 (whole request) Vlans ∷ Tick 1000 [] ∷ []

pub run_leaves : text.egress K 1 1 J ≡ capture_of answers
unfolding text.egress outputs.outputs_by outputs.notices heard.decoded heard.carried heard.is_flogi eth.decoded reading.decoded fc.decoded els.decoded fip.written els.written
run_leaves = refl

-- no advertisement is owed before a period has passed, and nobody is logged in
nothing_owed : (k : ℕ) → k < 2000 → nat_le 8000 (k - 1000) || false ≡ false
nothing_owed k lt = ap (λ b. b || false) (lt-leb 8000 (k - 1000) (omega (arith, lt)))

pub run : legal.Run K (requests ∷ []) J
unfolding verdicts.judged rules.rule_for heard.decoded heard.carried heard.is_flogi eth.decoded reading.decoded fc.decoded els.decoded legal.is_tick_owed fip.written els.written
run = record {
  ports = (((((tt, lit≤ tt, lit≤ tt)), lit≤ tt, lit≤ tt), lit≤ tt, lit≤ tt), lit≤ tt, lit≤ tt);
  frames = (refl, tt);
  legal = ((((((tt, refl), (refl, refl)), refl), (refl, refl)), (refl, refl)), (refl, refl));
  timed = ((
    (
      (
        (
          ((tt, (1000, (refl, refl), refl)), refl),
          (2000, (refl, refl), (lit< tt, lit≤ tt, inl refl, refl, λ k time lt. nothing_owed k lt)),
        ),
        refl,
      ),
      refl,
    ),
    refl,
  )
      );
}

pub lines : text.text J ≡ codes "journal 2\n1000 tick\n1000 1 0 vlans\n2000 tick\n2000 1 1 vlans\n2000 1 2 advertised\n2000 1 3 granted 010100\n"
unfolding text.text fmt.digits heard.carried eth.decoded reading.decoded fc.decoded els.decoded fip.written els.written
lines = refl
