-- A run over two ports of which one is silent: advertisements are owed between two VLAN requests, on both ports.
use Rattle.std.specs.Prelude.{◌≡◌, ℕ, ◌-◌, ◌+◌, ◌<◌, true, false, ◌||◌, nat_le, List, [], ◌∷◌, ◌++◌, refl, codes}
use Rattle.std.specs.Fmt as fmt
use Rattle.std.proofs.Common.{lit≤, lit<, arith, inl, inr, ap}
use Rattle.std.proofs.lemmas.Bool.{lt-leb, true≢false, false≢true}
use Rattle.fab_base.specs.Layout.{zeros}
use Rattle.pcap_file.specs.Capture as pcap
use Rattle.pcap_file.specs.declared.Record.{Record}
use Rattle.fab_policy.specs.Journal.{Journal}
use Rattle.heard_frames.specs.Heard as heard
use Rattle.fab_policy.specs.Legal as legal
use Rattle.fab_policy.specs.Outputs as outs
use Rattle.fab_policy.specs.Rules as rules
use Rattle.fab_policy.specs.Text as text
use Rattle.fab_policy.specs.Verdicts as verdicts
use Rattle.fab_policy.specs.declared.event.Event.TheVariants.{Tick, Frame}
use Rattle.fab_policy.specs.declared.verdict.Verdict.TheVariants.{Vlans}
use Rattle.eth_frames.specs.Ethernet as eth
use Rattle.fip_codec.specs.Message as fip
use Rattle.fip_codec.specs.Reading as reading
use Rattle.examples.specs.Given.{K, MAC_A, FORWARDER, vlan_request}

-- A's requests on port 1 at 1000 and 20000; port 2 is silent
abbrev pub requests : List Record
requests = record { moment = 1000; caught = vlan_request } ∷ record { moment = 20000; caught = vlan_request } ∷ []

abbrev pub first : Journal
first = Frame 1 0 vlan_request Vlans ∷ Tick 1000 [] ∷ []

abbrev pub advertised : Journal
advertised = Tick 17000 [] ∷ Tick 9000 [] ∷ first

abbrev pub J : Journal
J = Frame 1 1 vlan_request Vlans ∷ Tick 20000 [] ∷ advertised

-- ---- when an advertisement is owed

pub not_at_first : outs.advertisements_of K 2 (outs.advertised_at K []) (Tick 1000 []) ≡ []
not_at_first = refl

pub owed_at_9000 : legal.is_owed_after K first 9000 ≡ true
unfolding legal.is_tick_owed
owed_at_9000 = refl

-- none is owed until the period has passed
too_soon : (last k : ℕ) → k < last + 8000 → nat_le 8000 (k - last) || false ≡ false
too_soon last k lt = ap (λ b. b || false) (lt-leb 8000 (k - last) (omega (arith, lt)))

pub not_owed_before_9000 : (k : ℕ) → k < 9000 → legal.is_owed_after K first k ≡ false
unfolding legal.is_tick_owed
not_owed_before_9000 k lt = too_soon 1000 k lt

pub owed_at_17000 : legal.is_owed_after K (Tick 9000 [] ∷ first) 17000 ≡ true
unfolding legal.is_tick_owed
owed_at_17000 = refl

pub not_owed_before_17000 : (k : ℕ) → k < 17000 → legal.is_owed_after K (Tick 9000 [] ∷ first) k ≡ false
unfolding legal.is_tick_owed
not_owed_before_17000 k lt = too_soon 9000 k lt

-- the tick at 20000 is that of the second request
pub not_owed_before_20000 : (k : ℕ) → k < 20000 → legal.is_owed_after K advertised k ≡ false
unfolding legal.is_tick_owed
not_owed_before_20000 k lt = too_soon 17000 k (omega (arith, lt))

-- ---- what isn't in time

-- no tick stands past one that is due
pub not_past_9000 : legal.IsNextTick K first 20000 17000 → ⊥
unfolding legal.is_tick_owed
not_past_9000 h = true≢false (h.4 9000 (refl, lit< tt) (lit< tt))

-- nor before the window of the next frame, where nothing is owed
pub not_at_8000 : legal.IsNextTick K first 20000 8000 → ⊥
unfolding legal.is_tick_owed
not_at_8000 h = elim h.2 as (λ _. ⊥) [ inl e ↦ omega (arith, e) | inr e ↦ false≢true e ]

-- nor inside a window
pub not_inside : legal.IsNextTick K first 9050 9050 → ⊥
unfolding legal.is_tick_owed
not_inside h = omega (arith, h.3)

-- ports are numbered from 1
pub no_port_0 : legal.HasPorts 2 (Frame 0 0 vlan_request Vlans ∷ []) → ⊥
no_port_0 h = omega (arith, h.1)

pub no_port_3 : legal.HasPorts 2 (Frame 3 0 vlan_request Vlans ∷ []) → ⊥
no_port_3 h = omega (arith, h.2)

-- ---- the run

pub run : legal.Run K (requests ∷ [] ∷ []) J
unfolding verdicts.judged rules.rule_for heard.decoded eth.decoded reading.decoded legal.is_tick_owed
run = record {
  ports = ((tt, lit≤ tt, lit≤ tt), lit≤ tt, lit≤ tt);
  frames = (refl, (refl, tt));
  legal = ((((((tt, refl), (refl, refl)), refl), refl), refl), (refl, refl));
  timed = (
    (
      (
        (
          ((tt, (1000, (refl, refl), refl)), refl),
          (20000, (refl, refl), (lit< tt, lit≤ tt, inr refl, refl, λ k time lt. too_soon 1000 k lt)),
        ),
        (20000, (refl, refl), (lit< tt, lit≤ tt, inr refl, refl, λ k time lt. too_soon 9000 k lt)),
      ),
      (20000, (refl, refl), (lit< tt, lit≤ tt, inl refl, refl, λ k time lt. too_soon 17000 k (omega (arith, lt)))),
    ),
    refl,
  );
}

-- ---- what it writes

pub lines : text.text1 J ≡ codes "tick 1000\n1 0 vlans\ntick 9000\ntick 17000\ntick 20000\n1 1 vlans\n"
unfolding text.text1 fmt.digits
lines = refl

-- a record with the moment in seconds and microseconds and the length, the lowest byte first
abbrev pub in_record : List ℕ → List ℕ → ℕ → List ℕ → List ℕ
in_record seconds micros count bytes = seconds ++ 0 ∷ 0 ∷ micros ++ count ∷ 0 ∷ 0 ∷ 0 ∷ count ∷ 0 ∷ 0 ∷ 0 ∷ bytes

abbrev pub notification : List ℕ
notification = MAC_A ++ FORWARDER ++ 0x89 ∷ 0x14 ∷ 0x10 ∷ 0 ∷ 0 ∷ 4 ∷ 0 ∷ 2 ∷ 0 ∷ 3 ∷ 0 ∷ 0 ∷ 2 ∷ 2 ∷ FORWARDER ++ 0x0e ∷ 1 ∷ 0 ∷ 0x64 ∷ zeros 24

-- to all ENodes, with the forwarder's tag and 8 seconds as the period
abbrev pub advertisement : List ℕ
advertisement =
    0x01 ∷ 0x10 ∷ 0x18 ∷ 0x01 ∷ 0x00 ∷ 0x01 ∷ FORWARDER ++ 0x81 ∷ 0 ∷ 0x60 ∷ 0x64 ∷ 0x89 ∷ 0x14 ∷ 0x10 ∷ 0 ∷ 0 ∷ 1 ∷ 0 ∷ 2 ∷ 0 ∷ 0x0c ∷ 0x80 ∷ 0x05 ∷
    1 ∷ 1 ∷ 0 ∷ 0x80 ∷ 2 ∷ 2 ∷ FORWARDER ++ 4 ∷ 3 ∷ 0 ∷ 0 ∷ 0x10 ∷ 0 ∷ FORWARDER ++ 5 ∷ 4 ∷ 0 ∷ 0 ∷ 0 ∷ 0x0e ∷ 0xfc ∷ 0 ∷ 0x10 ∷ 0 ∷ FORWARDER ++ 0x0c ∷ 2 ∷ 0 ∷ 0 ∷ 0 ∷ 0 ∷ 0x1f ∷ 0x40 ∷ []

pub first_capture : text.egress K 2 1 J ≡ pcap.head_bytes ++ in_record (1 ∷ 0 ∷ []) (zeros 4) 60 notification
    ++ in_record (9 ∷ 0 ∷ []) (zeros 4) 76 advertisement ++ in_record (17 ∷ 0 ∷ []) (zeros 4) 76 advertisement ++ in_record (20 ∷ 0 ∷ []) (zeros 4) 60 notification
unfolding text.egress outs.outputs_by outs.notices eth.decoded reading.decoded fip.written
first_capture = refl

pub second_capture : text.egress K 2 2 J ≡ pcap.head_bytes ++ in_record (9 ∷ 0 ∷ []) (zeros 4) 76 advertisement ++ in_record (17 ∷ 0 ∷ []) (zeros 4) 76 advertisement
unfolding text.egress outs.outputs_by outs.notices eth.decoded reading.decoded fip.written
second_capture = refl
