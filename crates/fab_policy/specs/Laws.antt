-- What a VLAN request and a solicitation to this forwarder are, by the layout of Ethernet and the grammar of FIP alone (IEEE
-- 802.3, IEEE 802.1Q; FC-BB-5, "FIP operations").
use Rattle.std.specs.Prelude.{◌≡◌, ◌↔◌, ℕ, ◌⊎◌, Bool, true, false, nat_lt, List, Option}
use Rattle.std.specs.List.{AllPass}
use Rattle.fab_base.specs.declared.values.Caught.{Caught}
use Rattle.fab_config.specs.Settings.{Settings}
use Rattle.eth_frames.specs.Ethernet.{Eth, IsEth, vlan_of_tag}
use Rattle.fip_codec.specs.Message.{VlanAsk, Solicit}
use Rattle.fip_codec.specs.Reading.{IsFip}
use Rattle.heard_frames.specs.Heard.{FIP}
use Rattle.heard_frames.specs.Rows.{ALL_FCFS}
use Rattle.fab_policy.specs.State.{Tables}
use Rattle.fab_policy.specs.Verdicts.{IsRight}
use Rattle.fab_policy.specs.declared.verdict.Verdict.TheVariants.{Vlans, Advertised}

-- A captured frame is a VLAN request to this forwarder: it is whole, its bytes are some frame of the Ethertype of FIP, that
-- frame's body is a VLAN request which names the frame's source, and the frame is on the forwarder's VLAN or on none, to the
-- forwarder or to all forwarders.
pub record AsksVlans (c : Settings) (caught : Caught) : Type 0 where
  pub frame : Eth
  pub named : List ℕ
  pub node : Option ℕ
  pub whole : caught.whole ≡ true
  pub stands : IsEth frame caught.bytes
  pub kind : frame.kind ≡ FIP
  pub request : IsFip (VlanAsk named node) frame.body
  pub vlan : (vlan_of_tag frame.tag ≡ c.vlan) ⊎ (vlan_of_tag frame.tag ≡ 0)
  pub dest : (frame.dst ≡ c.fcf_mac) ⊎ (frame.dst ≡ ALL_FCFS)
  pub source : named ≡ frame.src

-- A captured frame is a solicitation of a node to this forwarder: the same of a solicitation without the flag of a forwarder,
-- on the forwarder's VLAN.
pub record Solicits (c : Settings) (caught : Caught) : Type 0 where
  pub frame : Eth
  pub fp : Bool
  pub named : List ℕ
  pub node : ℕ
  pub size : ℕ
  pub whole : caught.whole ≡ true
  pub stands : IsEth frame caught.bytes
  pub kind : frame.kind ≡ FIP
  pub request : IsFip (Solicit false fp named node size) frame.body
  pub vlan : vlan_of_tag frame.tag ≡ c.vlan
  pub dest : (frame.dst ≡ c.fcf_mac) ⊎ (frame.dst ≡ ALL_FCFS)
  pub source : named ≡ frame.src

-- ---- the laws

-- Whoever is logged in, VLANs are told as the answer to a VLAN request to this forwarder, and to no other frame.
abbrev pub RequestsAreAnswered : Type 0
RequestsAreAnswered = (c : Settings) (T : Tables) (port : ℕ) (caught : Caught) → AllPass (λ b. nat_lt b 256) caught.bytes → IsRight c T port caught Vlans ↔ AsksVlans c caught

-- The same of an advertisement and a solicitation.
abbrev pub SolicitationsAreAnswered : Type 0
SolicitationsAreAnswered = (c : Settings) (T : Tables) (port : ℕ) (caught : Caught) → AllPass (λ b. nat_lt b 256) caught.bytes → IsRight c T port caught Advertised ↔ Solicits c caught
