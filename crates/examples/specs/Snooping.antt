-- A bridge binds a granted MAC to the port to which the grant went down, and unbinds it at a clear link message.
use Rattle.std.specs.Prelude.{◌≡◌, ℕ, true, false, List, [], ◌∷◌, ◌++◌, Some, None, refl, map}
use Rattle.std.proofs.Common.{arith}
use Rattle.fab_base.specs.Layout.{zeros}
use Rattle.fab_base.specs.declared.values.Caught.{Caught}
use Rattle.pcap_file.specs.declared.Record.{Record}
use Rattle.pcap_file.specs.Capture as pcap
use Rattle.heard_frames.specs.Heard as heard
use Rattle.eth_frames.specs.Ethernet as eth
use Rattle.fc_check.specs.Crc as crc
use Rattle.fc_frames.specs.Frame as fc
use Rattle.fcoe_codec.specs.Fcoe as capsule
use Rattle.fip_codec.specs.Message as fip
use Rattle.fip_codec.specs.Reading as reading
use Rattle.els_messages.specs.Els as els
use Rattle.fip_snoop.specs.Messages.{forwarder_of}
use Rattle.fip_snoop.specs.History.{Handled, History, home, bound}
use Rattle.fip_snoop.specs.Ways as ways
use Rattle.fip_snoop.specs.Bridge as bridge
use Rattle.fip_snoop.specs.Laws as laws
use Rattle.side_runs.specs.Copies as copies
use Rattle.fip_snoop.specs.declared.bindings.Binding.{Binding}
use Rattle.fip_snoop.specs.declared.forwarder.Forwarder.{Forwarder}
use Rattle.fip_snoop.specs.declared.way.Way.{Way}
use Rattle.fip_snoop.specs.declared.way.Way.TheVariants.{Up, Down, All, Dropped}
use Rattle.fip_snoop.specs.declared.way.SnoopRule.TheVariants as rule
use Rattle.examples.specs.Given.{K, MAC_A, FORWARDER, NAME_A, flogi_a, fcp, data_head, mac_of, whole}

abbrev pub w : Forwarder
w = forwarder_of K

-- the accept of A's FLOGI with the address 010100
abbrev pub accept_a : Caught
accept_a = whole (MAC_A ++ FORWARDER ++ 0x81 ∷ 0 ∷ 0x60 ∷ 0x64 ∷ 0x89 ∷ 0x14 ∷ 0x10 ∷ 0 ∷ 0 ∷ 2 ∷ 0 ∷ 2 ∷ 0 ∷ 0x26 ∷ 0x80 ∷ 0 ∷ 7 ∷ 0x24 ∷ 0 ∷ 0 ∷
    0x23 ∷ 1 ∷ 1 ∷ 0 ∷ 0 ∷ 0xff ∷ 0xff ∷ 0xfe ∷ 1 ∷ 0x98 ∷ 0 ∷ 0 ∷ 0 ∷ 0 ∷ 0 ∷ 0 ∷ 0 ∷ 1 ∷ 0xff ∷ 0xff ∷ 0 ∷ 0 ∷ 0 ∷ 0 ∷
    2 ∷ 0 ∷ 0 ∷ 0 ∷ 0x20 ∷ 0x20 ∷ 0 ∷ 0 ∷ 0x30 ∷ 0 ∷ 0x08 ∷ 0x40 ∷ 0 ∷ 0 ∷ 0x27 ∷ 0x10 ∷ 0 ∷ 0 ∷ 0x07 ∷ 0xd0 ∷ 0x20 ∷ 1 ∷ FORWARDER ++ 0x10 ∷ 0 ∷ FORWARDER
    ++ zeros 32 ++ 0x88 ∷ zeros 47 ++ 2 ∷ 2 ∷ 0x0e ∷ 0xfc ∷ 0 ∷ 1 ∷ 1 ∷ 0 ∷ [])

abbrev pub frame_a : Caught
frame_a = fcp 0x010100 0x010101

-- the forwarder clears A's link
abbrev pub clear_a : Caught
clear_a = whole (MAC_A ++ FORWARDER ++ 0x81 ∷ 0 ∷ 0x60 ∷ 0x64 ∷ 0x89 ∷ 0x14 ∷
    fip.written (fip.Clear FORWARDER K.switch (record { mac = mac_of 0x010100; address = 0x010100; name = NAME_A } ∷ [])))

abbrev pub at : ℕ → Caught → Record
at moment caught = record { moment = moment; caught = caught }

-- port 1 is the forwarder's
abbrev pub ins : List (List Record)
ins = (at 1010 accept_a ∷ []) ∷ (at 1000 flogi_a ∷ at 1100 frame_a ∷ []) ∷ (at 1200 frame_a ∷ []) ∷ []

pub order : map {B = ℕ × ℕ} (λ a. (a.moment, a.port)) (bridge.arrivals ins) ≡ (1000, 2) ∷ (1010, 1) ∷ (1100, 2) ∷ (1200, 3) ∷ []
order = refl

-- by these ways, the newest first
abbrev pub L : History
L =
    record { port = 3; caught = frame_a; way = Dropped rule.Unbound }
    ∷ record { port = 2; caught = frame_a; way = Up }
    ∷ record { port = 1; caught = accept_a; way = Down 2 }
    ∷ record { port = 2; caught = flogi_a; way = Up }
    ∷ []

pub ways_are : bridge.history w [] (bridge.arrivals ins) ≡ L
unfolding ways.way_of heard.decoded eth.decoded reading.decoded fc.decoded els.decoded capsule.decoded capsule.written crc.crc crc.remainder
ways_are = refl

pub counts : (bridge.passed L ≡ 3) × (bridge.dropped L ≡ 1)
counts = (refl, refl)

pub home_of_a : home L MAC_A ≡ Some 2
unfolding heard.decoded eth.decoded reading.decoded capsule.decoded capsule.written crc.crc crc.remainder
home_of_a = refl

pub bound_a : bound w L (mac_of 0x010100) ≡ Some (record { mac = mac_of 0x010100; port = 2; enode = MAC_A; address = 0x010100 })
unfolding heard.decoded eth.decoded reading.decoded fc.decoded els.decoded capsule.decoded capsule.written crc.crc crc.remainder
bound_a = refl

-- what the forwarder's side and the port of A get
pub to_forwarder : copies.capture w 1 (bridge.arrivals ins) ≡ pcap.head_bytes ++ pcap.record_bytes 1000 flogi_a.bytes ++ pcap.record_bytes 1100 frame_a.bytes
unfolding ways.way_of heard.decoded eth.decoded reading.decoded fc.decoded els.decoded capsule.decoded capsule.written crc.crc crc.remainder
to_forwarder = refl

pub to_a : copies.capture w 2 (bridge.arrivals ins) ≡ pcap.head_bytes ++ pcap.record_bytes 1010 accept_a.bytes
unfolding ways.way_of heard.decoded eth.decoded reading.decoded fc.decoded els.decoded capsule.decoded capsule.written crc.crc crc.remainder
to_a = refl

-- ---- with a clear link message, and data behind it

abbrev pub cleared : List (List Record)
cleared = (at 1010 accept_a ∷ at 2000 clear_a ∷ []) ∷ (at 1000 flogi_a ∷ at 1100 frame_a ∷ at 2100 frame_a ∷ []) ∷ (at 1200 frame_a ∷ []) ∷ []

abbrev pub M : History
M = record { port = 2; caught = frame_a; way = Dropped rule.Unbound } ∷ record { port = 1; caught = clear_a; way = Down 2 } ∷ L

pub cleared_ways : bridge.history w [] (bridge.arrivals cleared) ≡ M
unfolding ways.way_of heard.decoded eth.decoded reading.decoded fc.decoded els.decoded capsule.decoded capsule.written crc.crc crc.remainder fip.written
cleared_ways = refl

pub cleared_counts : (bridge.passed M ≡ 4) × (bridge.dropped M ≡ 2)
cleared_counts = (refl, refl)

-- ---- the request alone binds nothing

pub unasked : ways.way_of w (record { port = 2; caught = flogi_a; way = Up } ∷ []) 2 frame_a ≡ Dropped rule.Unbound
unfolding ways.way_of heard.decoded eth.decoded reading.decoded fc.decoded els.decoded capsule.decoded capsule.written crc.crc crc.remainder
unasked = refl

-- ---- data from the forwarder

-- a data frame to A's granted MAC, with this D_ID
abbrev pub answer : ℕ → Caught
answer d_id = whole (mac_of 0x010100 ++ FORWARDER ++ 0x81 ∷ 0 ∷ 0 ∷ 0x64 ∷ 0x89 ∷ 0x06 ∷
    capsule.written (record { sof = 0x2e; eof = 0x42; frame = record { head = data_head 0x010101 d_id; payload = [] } }))

-- it goes down where the grant went, and to no other port
pub down_to_a : ways.way_of w L 1 (answer 0x010100) ≡ Down 2
unfolding ways.way_of heard.decoded eth.decoded reading.decoded fc.decoded els.decoded capsule.decoded capsule.written crc.crc crc.remainder
down_to_a = refl

pub to_no_other : (bridge.leads_to 2 (Down 2) ≡ true) × (bridge.leads_to 3 (Down 2) ≡ false)
to_no_other = (refl, refl)

-- with another D_ID, or behind the clear link message, it goes nowhere
pub another_address : ways.way_of w L 1 (answer 0x010102) ≡ Dropped rule.Address
unfolding ways.way_of heard.decoded eth.decoded reading.decoded fc.decoded els.decoded capsule.decoded capsule.written crc.crc crc.remainder
another_address = refl

pub cleared_down : ways.way_of w M 1 (answer 0x010100) ≡ Dropped rule.Unbound
unfolding ways.way_of heard.decoded eth.decoded reading.decoded fc.decoded els.decoded capsule.decoded capsule.written crc.crc crc.remainder fip.written
cleared_down = refl

-- ---- the relations of the laws

abbrev pub grant_a : Binding
grant_a = record { mac = mac_of 0x010100; port = 2; enode = MAC_A; address = 0x010100 }

-- what a keep alive of A holds
abbrev pub keep_body : List ℕ
keep_body = fip.written (fip.Keep MAC_A None) ++ zeros 24

abbrev pub keep_a : Handled
keep_a = record { port = 2; caught = whole (FORWARDER ++ MAC_A ++ 0x81 ∷ 0 ∷ 0 ∷ 0x64 ∷ 0x89 ∷ 0x14 ∷ keep_body); way = Up }

-- it shows where A is, and what goes down shows nothing
pub is_home : laws.IsHome (record { port = 1; caught = accept_a; way = Down 2 } ∷ keep_a ∷ []) MAC_A 2
unfolding heard.decoded eth.decoded reading.decoded fip.written
is_home = record {
  later = record { port = 1; caught = accept_a; way = Down 2 } ∷ [];
  entry = keep_a;
  before = [];
  are = refl;
  shows_ = record {
    frame = record { dst = FORWARDER; src = MAC_A; tag = Some 0x0064; kind = 0x8914; body = keep_body };
    message = fip.Keep MAC_A None;
    is = refl;
    source = refl;
    of_enode = refl;
    up = refl;
  };
  port_ = refl;
  last = (λ shows. not_up shows.up, tt);
}
  where
    not_up : Down 2 ≡ Up → ⊥
    not_up same = cc

-- the accept granted A its MAC, and neither data nor a drop ended that
pub is_bound : laws.IsBound w L (mac_of 0x010100) grant_a
unfolding heard.decoded eth.decoded reading.decoded fc.decoded els.decoded capsule.decoded capsule.written crc.crc crc.remainder
is_bound = record {
  later = record { port = 3; caught = frame_a; way = Dropped rule.Unbound } ∷ record { port = 2; caught = frame_a; way = Up } ∷ [];
  entry = record { port = 1; caught = accept_a; way = Down 2 };
  before = record { port = 2; caught = flogi_a; way = Up } ∷ [];
  are = refl;
  makes = refl;
  last = (refl, (refl, tt));
  stands = (refl, (refl, tt));
}

-- a capsule with these addresses
abbrev pub body_of : ℕ → ℕ → capsule.Fcoe
body_of s_id d_id = record { sof = 0x2e; eof = 0x42; frame = record { head = data_head s_id d_id; payload = [] } }

abbrev pub on_vlan : List ℕ → List ℕ → eth.Eth
on_vlan dst src = record { dst = dst; src = src; tag = Some 0x0064; kind = 0x8906; body = [] }

pub of_login : laws.IsOfLogin w L 2 (on_vlan FORWARDER (mac_of 0x010100)) (body_of 0x010100 0x010101)
of_login = record { vlan = refl; forwarder = refl; binding = grant_a; bound_ = is_bound; port_ = refl; address = refl }

pub to_login : laws.IsToLogin w L 2 (on_vlan (mac_of 0x010100) FORWARDER) (body_of 0x010101 0x010100)
to_login = record { vlan = refl; forwarder = refl; binding = grant_a; bound_ = is_bound; port_ = refl; address = refl }

-- what A sends leads to the forwarder's port, and the law says that it leads to no other
pub up_alone : (bridge.leads_to 1 Up ≡ true) × (bridge.leads_to 2 Up ≡ false)
up_alone = (refl, refl)

pub apart : laws.ENodesAreApart → (q : ℕ) → bridge.leads_to q (ways.way_of w L 2 frame_a) ≡ true → q ≡ 1
apart law q leads = law w L 2 frame_a q (λ same. omega (arith, same)) leads
