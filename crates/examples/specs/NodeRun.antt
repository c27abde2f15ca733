-- A node that nobody answers, one that logs in, and what becomes of it then.
use Rattle.std.specs.Prelude.{◌≡◌, ℕ, true, false, List, [], ◌∷◌, ◌++◌, refl, Some, None}
use Rattle.std.proofs.Common.{lit<, lit≤, inl, inr, arith}
use Rattle.fab_base.specs.Layout.{zeros}
use Rattle.fab_base.specs.declared.values.Caught.{Caught}
use Rattle.pcap_file.specs.Capture as pcap
use Rattle.pcap_file.specs.declared.Record.{Record}
use Rattle.eth_frames.specs.Ethernet as eth
use Rattle.fc_frames.specs.Frame as fc
use Rattle.fip_codec.specs.Message as fip
use Rattle.fip_codec.specs.Reading as reading
use Rattle.els_messages.specs.Els as els
use Rattle.heard_frames.specs.Heard as heard
use Rattle.enode_core.specs.declared.node.Identity.{Identity}
use Rattle.enode_core.specs.declared.node.Kept.{Kept}
use Rattle.enode_core.specs.declared.node.Phase.TheVariants as phase
use Rattle.enode_core.specs.declared.node.Stage.TheVariants as stage
use Rattle.enode_core.specs.declared.State.{State}
use Rattle.enode_core.specs.Alive as life
use Rattle.enode_core.specs.Frames as frames
use Rattle.enode_core.specs.Machine as node
use Rattle.enode_core.specs.Phases.{phase_of}
use Rattle.enode_core.specs.Runs as runs
use Rattle.side_runs.specs.Course as course
use Rattle.examples.specs.Given.{MAC_A, NAME_A, NODE_A, FORWARDER, whole, vlan_request, flogi_a}

abbrev pub A : Identity
A = record { mac = MAC_A; name = NAME_A; node = NODE_A }

-- ---- without answers

pub nobody : runs.IsRun A 1000 [] []
nobody = refl

pub alone : course.capture (runs.all_sent A 1000 []) ≡ pcap.head_bytes ++ 1 ∷ 0 ∷ 0 ∷ 0 ∷ 0 ∷ 0 ∷ 0 ∷ 0 ∷ 0x3c ∷ 0 ∷ 0 ∷ 0 ∷ 0x3c ∷ 0 ∷ 0 ∷ 0 ∷ vlan_request.bytes
unfolding fip.written
alone = refl

pub asking : (runs.stands A 1000 []).stage ≡ stage.Asking 2000
asking = refl

-- a frame that says nothing comes after the two timers that are due by then
abbrev pub other : Record
other = record { moment = 3000; caught = vlan_request }

pub asks_again : runs.IsRun A 1000 (other ∷ []) (runs.Timer ∷ runs.Timer ∷ runs.Heard other ∷ [])
unfolding heard.decoded eth.decoded reading.decoded
asks_again = (lit≤ tt, (lit≤ tt, (refl, lit< tt, refl)))

-- ---- with answers

-- an untagged VLAN notification, 60 bytes
abbrev pub notification : List ℕ
notification = MAC_A ++ FORWARDER ++ 0x89 ∷ 0x14 ∷ 0x10 ∷ 0 ∷ 0 ∷ 4 ∷ 0 ∷ 2 ∷ 0 ∷ 3 ∷ 0 ∷ 0 ∷ 2 ∷ 2 ∷ FORWARDER ++ 0x0e ∷ 1 ∷ 0 ∷ 0x64 ∷ zeros 24

-- what an advertisement holds, with zeros behind it
abbrev pub advertised : List ℕ
advertised = 0x10 ∷ 0 ∷ 0 ∷ 1 ∷ 0 ∷ 2 ∷ 0 ∷ 0x0c ∷ 0x80 ∷ 7 ∷
    1 ∷ 1 ∷ 0 ∷ 0x80 ∷ 2 ∷ 2 ∷ FORWARDER ++ 4 ∷ 3 ∷ 0 ∷ 0 ∷ 0x10 ∷ 0 ∷ FORWARDER ++ 5 ∷ 4 ∷ 0 ∷ 0 ∷ 0 ∷ 0x0e ∷ 0xfc ∷ 0 ∷ 0x10 ∷ 0 ∷ FORWARDER
    ++ 0x0c ∷ 2 ∷ 0 ∷ 0 ∷ 0 ∷ 0 ∷ 0x1f ∷ 0x40 ∷ zeros 2100

-- a solicited advertisement, with zeros up to 2,158 bytes behind its Ethernet header
abbrev pub advertisement : List ℕ
advertisement = MAC_A ++ FORWARDER ++ 0x81 ∷ 0 ∷ 0x60 ∷ 0x64 ∷ 0x89 ∷ 0x14 ∷ advertised

-- the accept of its FLOGI
abbrev pub accept : List ℕ
accept = MAC_A ++ FORWARDER ++ 0x81 ∷ 0 ∷ 0x60 ∷ 0x64 ∷ 0x89 ∷ 0x14 ∷ 0x10 ∷ 0 ∷ 0 ∷ 2 ∷ 0 ∷ 2 ∷ 0 ∷ 0x26 ∷ 0x80 ∷ 0 ∷ 7 ∷ 0x24 ∷ 0 ∷ 0 ∷
    0x23 ∷ 1 ∷ 1 ∷ 0 ∷ 0 ∷ 0xff ∷ 0xff ∷ 0xfe ∷ 1 ∷ 0x98 ∷ 0 ∷ 0 ∷ 0 ∷ 0 ∷ 0 ∷ 0 ∷ 0 ∷ 1 ∷ 0xff ∷ 0xff ∷ 0 ∷ 0 ∷ 0 ∷ 0 ∷
    2 ∷ 0 ∷ 0 ∷ 0 ∷ 0x20 ∷ 0x20 ∷ 0 ∷ 0 ∷ 0x30 ∷ 0 ∷ 0x08 ∷ 0x40 ∷ 0 ∷ 0 ∷ 0x27 ∷ 0x10 ∷ 0 ∷ 0 ∷ 0x07 ∷ 0xd0 ∷ 0x20 ∷ 1 ∷ FORWARDER ++ 0x10 ∷ 0 ∷ FORWARDER
    ++ zeros 32 ++ 0x88 ∷ zeros 47 ++ 2 ∷ 2 ∷ 0x0e ∷ 0xfc ∷ 0 ∷ 1 ∷ 1 ∷ 0 ∷ []

abbrev pub at : ℕ → List ℕ → Record
at moment bytes = record { moment = moment; caught = whole bytes }

abbrev pub answers : List Record
answers = at 1100 notification ∷ at 1200 advertisement ∷ at 1300 accept ∷ []

abbrev pub inputs : List runs.Input
inputs = runs.Heard (at 1100 notification) ∷ runs.Heard (at 1200 advertisement) ∷ runs.Heard (at 1300 accept) ∷ []

pub run : runs.IsRun A 1000 answers inputs
unfolding heard.decoded eth.decoded reading.decoded fc.decoded els.decoded
run = (refl, lit< tt, (refl, lit< tt, (refl, lit< tt, refl)))

-- its solicitation, 60 bytes
abbrev pub solicitation : List ℕ
solicitation = 0x01 ∷ 0x10 ∷ 0x18 ∷ 0x01 ∷ 0 ∷ 2 ∷ MAC_A ++ 0x81 ∷ 0 ∷ 0 ∷ 0x64 ∷ 0x89 ∷ 0x14 ∷ 0x10 ∷ 0 ∷ 0 ∷ 1 ∷ 0 ∷ 1 ∷ 0 ∷ 6 ∷ 0x80 ∷ 0 ∷
    2 ∷ 2 ∷ MAC_A ++ 4 ∷ 3 ∷ 0 ∷ 0 ∷ 0x10 ∷ 0 ∷ MAC_A ++ 6 ∷ 1 ∷ 0x08 ∷ 0x6e ∷ zeros 8

abbrev pub sent_at : ℕ → List ℕ → runs.Sending
sent_at moment bytes = record { moment = moment; bytes = bytes }

-- it sends a VLAN request, a solicitation and a FLOGI
pub sends : runs.all_sent A 1000 inputs ≡ sent_at 1000 vlan_request.bytes ∷ sent_at 1100 solicitation ∷ sent_at 1200 flogi_a.bytes ∷ []
unfolding heard.decoded eth.decoded reading.decoded fc.decoded els.decoded fip.written els.written
sends = refl

abbrev pub kept : Kept
kept = record { mac = FORWARDER; fc_map = 0x0efc00; period = 8000 }

-- and is up with the address of the accept
pub up : (runs.stands A 1000 inputs).stage ≡ stage.Up kept 0x010100 9300 91300 1300
unfolding heard.decoded eth.decoded reading.decoded fc.decoded els.decoded
up = refl

pub told : phase_of (runs.stands A 1000 inputs) ≡ phase.Up 0x010100 (0x0e ∷ 0xfc ∷ 0 ∷ 1 ∷ 1 ∷ 0 ∷ [])
unfolding heard.decoded eth.decoded reading.decoded fc.decoded els.decoded
told = refl

-- ---- what becomes of it

abbrev pub IS_UP : State
IS_UP = record { vlan = 100; ox_id = 1; stage = stage.Up kept 0x010100 9300 91300 1300 }

-- its own keep alive comes first, and is due again after a period
pub alive : node.timer A IS_UP ≡ record {
  state = record { vlan = 100; ox_id = 1; stage = stage.Up kept 0x010100 17300 91300 1300 };
  sent = (FORWARDER ++ MAC_A ++ 0x81 ∷ 0 ∷ 0 ∷ 0x64 ∷ 0x89 ∷ 0x14 ∷ 0x10 ∷ 0 ∷ 0 ∷ 3 ∷ 0 ∷ 1 ∷ 0 ∷ 2 ∷ 0 ∷ 0 ∷ 2 ∷ 2 ∷ MAC_A ++ zeros 24) ∷ [];
}
unfolding fip.written
alive = refl

-- after more than two and a half periods it looks again, also where a keep alive is due then
pub silent : (node.timer A (record { vlan = 100; ox_id = 1; stage = stage.Up kept 0x010100 21301 91300 1300 })).state ≡ record { vlan = 100; ox_id = 1; stage = stage.Looking 22301 }
silent = refl

-- an accept with another OX_ID does nothing
pub late : node.frame A (record { vlan = 100; ox_id = 2; stage = stage.Logging kept 5000 }) 4000 (whole accept) ≡ node.stays (record { vlan = 100; ox_id = 2; stage = stage.Logging kept 5000 })
unfolding heard.decoded eth.decoded reading.decoded fc.decoded els.decoded
late = refl

-- a clear link message that lists its grant makes it look again, and one that lists another doesn't
abbrev pub clear : ℕ → List ℕ
clear low = MAC_A ++ FORWARDER ++ 0x81 ∷ 0 ∷ 0x60 ∷ 0x64 ∷ 0x89 ∷ 0x14 ∷ 0x10 ∷ 0 ∷ 0 ∷ 3 ∷ 0 ∷ 2 ∷ 0 ∷ 0x0a ∷ 0 ∷ 0 ∷
    2 ∷ 2 ∷ FORWARDER ++ 4 ∷ 3 ∷ 0 ∷ 0 ∷ 0x10 ∷ 0 ∷ FORWARDER ++ 0x0b ∷ 5 ∷ 0x0e ∷ 0xfc ∷ 0 ∷ 1 ∷ 1 ∷ low ∷ 0 ∷ 1 ∷ 1 ∷ low ∷ 0x20 ∷ 0 ∷ MAC_A

pub cleared : (node.frame A IS_UP 2000 (whole (clear 0))).state ≡ record { vlan = 100; ox_id = 1; stage = stage.Looking 3000 }
unfolding heard.decoded eth.decoded reading.decoded
cleared = refl

pub another : node.frame A IS_UP 2000 (whole (clear 1)) ≡ node.stays IS_UP
unfolding heard.decoded eth.decoded reading.decoded
another = refl

-- the OX_ID after 65534 is 1
pub again : (node.timer A (record { vlan = 100; ox_id = 65534; stage = stage.Logging kept 5000 })).state ≡ record { vlan = 100; ox_id = 1; stage = stage.Logging kept 7000 }
again = refl

-- ---- while it is up

-- it stays up at its next two timers, and what it sends are two keep alives, a period apart; the next one is due a period later
pub stays : life.StaysUp A IS_UP (runs.Timer ∷ runs.Timer ∷ [])
stays = (tt, (tt, tt))

pub looking_is_not_up : life.IsUp (stage.Looking 3000) → ⊥
looking_is_not_up h = h

pub alives : life.AreAlives A 100 kept 0x010100 9300 91300 (runs.sent A IS_UP (runs.Timer ∷ runs.Timer ∷ [])) 25300 91300
unfolding fip.written
alives = inl (refl, lit≤ tt, inl (refl, lit≤ tt, (refl, refl)))

-- none may be left out
pub left_out : life.AreAlives A 100 kept 0x010100 9300 91300 [] 17300 91300 → ⊥
left_out h = omega (arith, h.0)

-- no timer is due before its keep alive
pub before : life.IsBefore IS_UP 9299
before = lit< tt

pub no_longer : life.IsBefore IS_UP 9300 → ⊥
no_longer h = omega (arith, h)

-- its VN_Port's keep alive goes from the granted MAC
pub from_granted : life.IsSentUp A (record { vlan = 100; ox_id = 1; stage = stage.Up kept 0x010100 97300 91300 90000 }) (runs.Timer ∷ []) (sent_at 91300 (frames.port_keep A 100 kept 0x010100))
from_granted = record {
  before = [];
  later = [];
  are = refl;
  kept = kept;
  address = 0x010100;
  node_due = 97300;
  port_due = 91300;
  at = 90000;
  up = refl;
  moment_ = refl;
  from = record {
    tag = Some 100;
    dst = FORWARDER;
    message = fip.Keep MAC_A (Some (record { mac = 0x0e ∷ 0xfc ∷ 0 ∷ 1 ∷ 1 ∷ 0 ∷ []; address = 0x010100; name = NAME_A }));
    is = refl;
  };
}

-- ---- its forwarder is heard

pub heard_of : life.IsHeardOf (whole advertisement) A 100 kept
unfolding heard.decoded eth.decoded reading.decoded
heard_of = record {
  frame = record { dst = MAC_A; src = FORWARDER; tag = Some 0x6064; kind = 0x8914; body = advertised };
  message = fip.Advertise true true true true 0x80 FORWARDER 0x100000051e000002 0x0efc00 0x100000051e000002 false 8000;
  reads = refl;
  advertises = refl;
  on_vlan = refl;
  from = refl;
  to = inl refl;
}

pub no_advertisement : life.is_advertisement (fip.Clear FORWARDER 0x100000051e000002 []) ≡ false
no_advertisement = refl
