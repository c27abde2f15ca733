-- A forwarder, a bridge and a node over each other's files, the node being up: the premises of the law of joined_runs, all together.
use Rattle.std.specs.Prelude.{◌≡◌, ◌≢◌, ℕ, ◌<◌, ◌^◌, nat_lt, true, false, List, [], ◌∷◌, map, length, drop, codes, Some, None, refl}
use Rattle.std.specs.List.{AllPass, list_all}
use Rattle.std.proofs.lemmas.List.Sums.{AllPass-from_list_all}
use Rattle.std.proofs.Common.{inl, inr, arith, lit≤, lit<, ap, sym, subst}
use Rattle.pcap_file.specs.Capture as pcap
use Rattle.pcap_file.specs.Capture.{HEAD, IsCapture, head_decoded}
use Rattle.pcap_file.specs.declared.CaptureHead.{CaptureHead}
use Rattle.pcap_file.specs.declared.Record.{Record}
use Rattle.pcap_file.proofs.lemmas.Chains.{ends_as_capture}
use Rattle.eth_frames.specs.Ethernet as eth
use Rattle.fc_frames.specs.Frame as fc
use Rattle.fip_codec.specs.Message as fip
use Rattle.fip_codec.specs.Reading as reading
use Rattle.els_messages.specs.Els as els
use Rattle.heard_frames.specs.Heard as heard
use Rattle.fab_policy.specs.Journal.{Journal}
use Rattle.fab_policy.specs.Ranged.{AscendFrom, IsRanged}
use Rattle.fab_policy.specs.Text.{text}
use Rattle.fab_policy.proofs.Forwarding.{legal_forwards}
use Rattle.fab_policy.proofs.Live.{legal_names_the_live}
use Rattle.fab_policy.proofs.NamedLemmas.{text_names_journal}
use Rattle.fab_policy.proofs.Quiet.{legal_is_quiet}
use Rattle.fab_policy.proofs.Sound.{legal_is_sound}
use Rattle.fab_policy.proofs.SoundFree.{grants_are_free}
use Rattle.fab_policy.proofs.SoundMacs.{live_macs_differ}
use Rattle.window_records.specs.Looks as looks
use Rattle.window_records.specs.Looks.{Opened}
use Rattle.fab_replay.proofs.OneLemmas.{same_frames}
use Rattle.fab_windows.specs.Run.{IsRunOver}
use Rattle.fip_snoop.specs.Bridge as bridge
use Rattle.fip_snoop.specs.Messages.{forwarder_of}
use Rattle.fip_snoop.proofs.LawLemmas.{data_up}
use Rattle.fip_snoop.proofs.WayLemmas.{data_down, enodes_are_apart}
use Rattle.side_runs.proofs.TakenLemmas.{taken_are_captures}
use Rattle.enode_core.specs.Laws.{IsAmong, IsTyped}
use Rattle.enode_core.specs.declared.node.Phase.TheVariants as phase
use Rattle.enode_core.proofs.RunLemmas.{runs_are_granted}
use Rattle.fabric_tool.specs.Command.{SnoopNames, EnodeNames}
use Rattle.fabric_tool.specs.Enode.{HasPlayed}
use Rattle.fabric_tool.specs.Inputs.{LIMITS, stop_of, AreCaptures}
use Rattle.fabric_tool.specs.Left.{HasRun, IsSafe}
use Rattle.fabric_tool.specs.Snooping.{HasSnooped}
use Rattle.fabric_tool.proofs.SafeLemmas as safe_lemmas
use Rattle.pcap_file.specs.Captures.{unless_stopped}
use Rattle.side_runs.specs.Crossing.{unless_too_long}
use Rattle.joined_runs.specs.Box.{Any, AreCarried, Files, IsAt, IsFreeOf, IsGranted, AreDone, AreBridged, BridgedIsGranted}
use Rattle.command_examples.specs.Boxed.{own, at, advertisement, accept, request, solicitation, flogi, requests, answers, passed, capture_of, inputs, node_run, node_leaves, node_is_up, node_ox_id, passed_is_taken, both_are_taken, bridge_leaves, bridge_counts, J, run, run_leaves}
use Rattle.command_examples.specs.Running.{value}
use Rattle.command_examples.specs.Store.{File, CONFIG, K, K_FILE, names, holding}

abbrev file : List ℕ → List ℕ → File
file name bytes = record { name = name; bytes = bytes }

-- ---- `run`

abbrev pub RUN_OLD : List File
RUN_OLD = K_FILE ∷ file (codes "IN") (capture_of requests) ∷ []

abbrev pub RUN_NEW : List File
RUN_NEW = K_FILE ∷ file (codes "IN") (capture_of requests) ∷ file (codes "J") (text J) ∷ file (codes "OUT") (capture_of answers) ∷ []

abbrev opened : Opened
opened = record { head = record { big = false; nano = false }; body = drop HEAD (capture_of requests) }

all_are : looks.all_records (opened ∷ []) ≡ requests ∷ []
unfolding pcap.next heard.carried eth.decoded reading.decoded fc.decoded els.decoded fip.written els.written
all_are = refl

no_stop : stop_of K (opened ∷ []) ≡ None
unfolding looks.looks looks.stop pcap.next heard.carried eth.decoded reading.decoded fc.decoded els.decoded fip.written els.written
no_stop = refl

captures : AreCaptures (holding RUN_OLD) names.ins (requests ∷ [])
unfolding head_decoded pcap.next heard.carried eth.decoded reading.decoded fc.decoded els.decoded fip.written els.written
captures = (record { bytes = capture_of requests; file = refl; head = opened.head; capture = record { head = refl; whole = refl; says = refl } }, tt)

-- bytes are below 256
are_bytes : (l : List ℕ) → list_all (λ b. nat_lt b 256) l ≡ true → AllPass (λ b. nat_lt b 256) l
are_bytes l e = AllPass-from_list_all (λ b. nat_lt b 256) l e

request_bytes : list_all (λ b. nat_lt b 256) request ≡ true
unfolding fip.written
request_bytes = refl

solicitation_bytes : list_all (λ b. nat_lt b 256) solicitation ≡ true
unfolding fip.written
solicitation_bytes = refl

flogi_bytes : list_all (λ b. nat_lt b 256) flogi ≡ true
unfolding fip.written els.written
flogi_bytes = refl

none_listed : AscendFrom 0 []
none_listed = (tt, λ k d lt. absurd (omega (arith, lt)))

ranged : IsRanged J
ranged = (
  (
    (
      (
        (
          (tt, (lit< tt, none_listed)),
          (lit≤ tt, lit≤ tt, lit< tt, are_bytes request request_bytes, tt),
        ),
        (lit< tt, none_listed),
      ),
      (lit≤ tt, lit≤ tt, lit< tt, are_bytes request request_bytes, tt),
    ),
    (lit≤ tt, lit≤ tt, lit< tt, are_bytes solicitation solicitation_bytes, tt),
  ),
  (lit≤ tt, lit≤ tt, lit< tt, are_bytes flogi flogi_bytes, lit< tt),
)

is_run : IsRunOver K (looks.all_records (opened ∷ [])) J
is_run = subst (λ ins. IsRunOver K ins J) (sym all_are) (record { ranged = ranged; run = run })

-- the journal's file has the text of no other run
one : (I : Journal) → IsRunOver K (looks.all_records (opened ∷ [])) I → (holding RUN_NEW).file (codes "J") ≡ Some (text I) → I ≡ J
one I r is =
    let same : text I ≡ text J = cc in
    (text_names_journal I J r.ranged ranged (same_frames (looks.all_records (opened ∷ [])) I J r.run.ports is_run.run.ports r.run.frames is_run.run.frames)).0 same

safe : IsSafe K J
safe = safe_lemmas.safe legal_is_sound legal_is_quiet grants_are_free legal_forwards live_macs_differ legal_names_the_live K J refl run.legal

pub has_run : HasRun names 4 6 (holding RUN_OLD) (holding RUN_NEW)
unfolding head_decoded fip.written els.written
has_run = record {
  settings = K;
  opened = opened ∷ [];
  inputs = record { config = record { text = CONFIG; file = refl; value = value }; heads = (record { bytes = capture_of requests; file = refl; head = refl; body = refl }, tt) };
  captures = subst (λ ins. AreCaptures (holding RUN_OLD) names.ins ins) (sym all_are) captures;
  none = no_stop;
  journal = J;
  run = is_run;
  one = one;
  safe = safe;
  files = record { lines = refl; captures = ap (λ l. Some l ∷ []) (sym run_leaves) };
  frames_are = refl;
  entries_are = refl;
}

-- ---- `snoop`

abbrev pub sides : SnoopNames
sides = record { config = codes "K"; ins = codes "NEAR" ∷ codes "FAR" ∷ []; outs = codes "UP" ∷ codes "DOWN" ∷ [] }

abbrev pub BRIDGE_OLD : List File
BRIDGE_OLD = K_FILE ∷ file (codes "NEAR") (capture_of answers) ∷ file (codes "FAR") (capture_of requests) ∷ []

abbrev pub BRIDGE_NEW : List File
BRIDGE_NEW = K_FILE ∷ file (codes "NEAR") (capture_of answers) ∷ file (codes "FAR") (capture_of requests) ∷ file (codes "UP") (capture_of requests) ∷ file (codes "DOWN") (capture_of passed) ∷ []

pub has_snooped : HasSnooped sides 7 1 (holding BRIDGE_OLD) (holding BRIDGE_NEW)
has_snooped = record {
  settings = K;
  config = record { text = CONFIG; file = refl; value = value };
  bridged = record {
    records = answers ∷ requests ∷ [];
    captures_ = taken_are_captures ends_as_capture 1 LIMITS (Some (capture_of answers) ∷ Some (capture_of requests) ∷ []) (answers ∷ requests ∷ []) both_are_taken;
    taken = both_are_taken;
    crosses = ap (λ r. unless_stopped r (λ ins. unless_too_long (bridge.arrivals ins))) both_are_taken;
    outputs = ap (map (λ l. Some l)) (sym bridge_leaves);
    passed_ = bridge_counts.0;
    dropped_ = bridge_counts.1;
  };
  data_ = λ before later a f read are differ reads. data_up (forwarder_of K) (bridge.history (forwarder_of K) [] before) a.port a.caught f read differ reads;
  down = λ before later a f read q are own reads. data_down (forwarder_of K) (bridge.history (forwarder_of K) [] before) a.port a.caught f read q own reads;
  apart = λ before later a q are differ. enodes_are_apart (forwarder_of K) (bridge.history (forwarder_of K) [] before) a.port a.caught q differ;
}

-- ---- `enode`

abbrev pub node : EnodeNames
node = record { start = 1000; own = own; from = codes "HEARD"; to = codes "SENT" }

abbrev pub NODE_OLD : List File
NODE_OLD = file (codes "HEARD") (capture_of passed) ∷ []

abbrev pub NODE_NEW : List File
NODE_NEW = file (codes "HEARD") (capture_of passed) ∷ file (codes "SENT") (capture_of requests) ∷ []

typed : IsTyped own
typed = record { mac = refl; name = lit< tt; node = lit< tt }

abbrev pub granted_mac : List ℕ
granted_mac = 0x0e ∷ 0xfc ∷ 0 ∷ 1 ∷ 1 ∷ 0 ∷ []

pub has_played : HasPlayed node (holding NODE_OLD) (holding NODE_NEW) (phase.Up 0x010100 granted_mac)
has_played = record {
  bytes = capture_of passed;
  records = passed;
  inputs = inputs;
  found = refl;
  taken = passed_is_taken;
  run = node_run;
  output = ap (λ l. Some l) (sym node_leaves);
  stands_so = node_is_up;
  granted = runs_are_granted own 1000 passed inputs typed node_run;
}

-- ---- joined

abbrev run_files : Files
run_files = record { old = holding RUN_OLD; new = holding RUN_NEW }

abbrev bridge_files : Files
bridge_files = record { old = holding BRIDGE_OLD; new = holding BRIDGE_NEW }

abbrev node_files : Files
node_files = record { old = holding NODE_OLD; new = holding NODE_NEW }

pub done : AreDone names node 1 run_files node_files
done = record {
  frames = 4;
  entries = 6;
  ran = has_run;
  address = 0x010100;
  mac = granted_mac;
  played = has_played;
  input = codes "IN";
  output = codes "OUT";
  port_ = record { comes = inl (refl, refl); goes = inl (refl, refl) };
}

pub bridged : AreBridged names sides node 1 2 run_files bridge_files node_files
unfolding done
bridged = record {
  done = done;
  passes = 7;
  drops = 1;
  snooped = has_snooped;
  near_input = codes "NEAR";
  near_output = codes "UP";
  near = record { comes = inl (refl, refl); goes = inl (refl, refl) };
  far_input = codes "FAR";
  far_output = codes "DOWN";
  far_ = record { comes = inr (inl (refl, refl)); goes = inr (inl (refl, refl)) };
  apart = λ is. absurd (omega (arith, is));
  run_to_bridge = record { sent = capture_of answers; came = capture_of answers; left_ = refl; found_ = refl; carries = inl refl };
  bridge_to_node = record { sent = capture_of passed; came = capture_of passed; left_ = refl; found_ = refl; carries = inl refl };
  node_to_bridge = record { sent = capture_of requests; came = capture_of requests; left_ = refl; found_ = refl; carries = inl refl };
  bridge_to_run = record { sent = capture_of requests; came = capture_of requests; left_ = refl; found_ = refl; carries = inl refl };
  alone = alone;
}
  where
    alone : (other : ℕ) (name : List ℕ) → IsAt 1 sides.ins other name → other ≢ 1 → other ≢ 2 → IsFreeOf own.mac (holding BRIDGE_OLD) name
    alone other name (inl is) near far = absurd (near is.0)
    alone other name (inr (inl is)) near far = absurd (far is.0)
    alone other name (inr (inr none)) near far = absurd none

-- So the law of joined_runs speaks of this node: its address was granted on port 1, for its only FLOGI, and stands.
pub is_granted : BridgedIsGranted → IsGranted K J 1 own 0x010100 1
unfolding bridged done has_run has_played
is_granted law = subst (IsGranted K J 1 own 0x010100) node_ox_id (law names sides node 1 2 run_files bridge_files node_files bridged)

-- ---- a wire that holds frames back

-- what passed the bridge, a window later and without the first frame
abbrev pub late : List Record
late = at 2100 advertisement ∷ at 2100 accept ∷ []

low : CaptureHead
low = record { big = false; nano = false }

passed_capture : IsCapture low passed (capture_of passed)
unfolding low head_decoded pcap.next heard.carried eth.decoded reading.decoded fc.decoded els.decoded fip.written els.written
passed_capture = record { head = refl; whole = refl; says = refl }

late_capture : IsCapture low late (capture_of late)
unfolding low head_decoded pcap.next heard.carried eth.decoded reading.decoded fc.decoded els.decoded fip.written els.written
late_capture = record { head = refl; whole = refl; says = refl }

few : length (capture_of passed) < 2 ^ 32
unfolding heard.carried eth.decoded reading.decoded fc.decoded els.decoded fip.written els.written
few = lit< tt

pub carried : AreCarried Any (capture_of passed) (capture_of late)
carried = record { few = few; sent_head = low; sent_records = passed; sent_ = passed_capture; came_head = low; came_records = late; came_ = late_capture; each = each }
  where
    each : (r : Record) → IsAmong r late → Any r.caught → (s : Record) × IsAmong s passed × (s.caught ≡ r.caught)
    each r (inl is) such = (at 2000 advertisement, inr (inl refl), ap (λ (q : Record). q.caught) (sym is))
    each r (inr (inl is)) such = (at 2000 accept, inr (inr (inl refl)), ap (λ (q : Record). q.caught) (sym is))
    each r (inr (inr none)) such = absurd none
