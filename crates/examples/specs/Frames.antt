-- Long frames: the answer to a solicitation of full size, and a data frame of full size, whole and damaged.
use Rattle.std.specs.Prelude.{◌≡◌, ℕ, true, List, [], ◌∷◌, ◌++◌, refl, map, length, replicate, slice_set}
use Rattle.fab_base.specs.Layout.{field}
use Rattle.fab_base.specs.declared.values.Caught.{Caught}
use Rattle.fab_config.specs.Settings.{Settings}
use Rattle.fab_policy.specs.State as state
use Rattle.fab_policy.specs.Verdicts as verdicts
use Rattle.fab_policy.specs.Rules as rules
use Rattle.heard_frames.specs.Heard as heard
use Rattle.fab_policy.specs.Cause as cause
use Rattle.fab_policy.specs.Outputs as outs
use Rattle.fab_policy.specs.declared.event.Event.TheVariants.{Tick, Frame}
use Rattle.fab_policy.specs.declared.verdict.Verdict.TheVariants.{Advertised, Forwarded, Dropped}
use Rattle.fab_policy.specs.declared.verdict.Rule.TheVariants as rule
use Rattle.eth_frames.specs.Ethernet as eth
use Rattle.fc_check.specs.Crc as crc
use Rattle.fc_frames.specs.Frame as fc
use Rattle.fcoe_codec.specs.Fcoe as capsule
use Rattle.fip_codec.specs.Message as fip
use Rattle.fip_codec.specs.Reading as reading
use Rattle.els_messages.specs.Els as els
use Rattle.zone_rules.specs.Joined as zones
use Rattle.examples.specs.Given.{K, WITH_ZONE, FORWARDER, MAC_A, solicitation, in_vlan, mac_of, data_head}
use Rattle.examples.specs.StateChange.{two_logins}

-- 2176 bytes, of which the message is the first part
pub size : map {B = ℕ × ℕ} (λ s. (s.port, length s.bytes)) (outs.outputs K 1 (Tick 1000 [] ∷ []) (Frame 1 0 (solicitation MAC_A) Advertised)) ≡ (1, 2176) ∷ []
unfolding outs.outputs_by outs.notices eth.decoded reading.decoded fip.written
size = refl

pub message : map (λ s. field s.bytes 18 58) (outs.outputs K 1 (Tick 1000 [] ∷ []) (Frame 1 0 (solicitation MAC_A) Advertised)) ≡
    (0x10 ∷ 0 ∷ 0 ∷ 1 ∷ 0 ∷ 2 ∷ 0 ∷ 0x0c ∷ 0x80 ∷ 7 ∷ 1 ∷ 1 ∷ 0 ∷ 0x80 ∷ 2 ∷ 2 ∷ FORWARDER ++ 4 ∷ 3 ∷ 0 ∷ 0 ∷ 0x10 ∷ 0 ∷ FORWARDER ++
    5 ∷ 4 ∷ 0 ∷ 0 ∷ 0 ∷ 0x0e ∷ 0xfc ∷ 0 ∷ 0x10 ∷ 0 ∷ FORWARDER ++ 0x0c ∷ 2 ∷ 0 ∷ 0 ∷ 0 ∷ 0 ∷ 0x1f ∷ 0x40 ∷ []) ∷ []
unfolding outs.outputs_by outs.notices eth.decoded reading.decoded fip.written
message = refl

abbrev pub few : Settings
few = record WITH_ZONE { pool = 4 }

-- a data frame of the largest payload
abbrev pub large : List ℕ → Caught
large payload = in_vlan (mac_of 0x010100) 0x8906 (capsule.written (record { sof = 0x2e; eof = 0x42; frame = record { head = data_head 0x010100 0x010101; payload = payload } }))

pub forwarded : verdicts.judged few (state.tables_of few two_logins) 1 (large (replicate 2112 0x55)) ≡ verdicts.Must (Forwarded 2)
unfolding verdicts.judged rules.rule_for heard.decoded heard.carried heard.is_flogi eth.decoded reading.decoded fc.decoded els.decoded capsule.decoded capsule.written crc.crc crc.remainder zones.joined
forwarded = refl

pub too_long : verdicts.judged few (state.tables_of few two_logins) 1 (large (replicate 2116 0x55)) ≡ verdicts.Must (Dropped (cause.plain rule.FcoeLength))
unfolding verdicts.judged rules.rule_for heard.decoded heard.carried heard.is_flogi eth.decoded reading.decoded fc.decoded els.decoded capsule.decoded capsule.written crc.crc crc.remainder zones.joined
too_long = refl

-- a frame of which one byte of the payload differs
abbrev pub damaged : Caught
damaged = record { bytes = slice_set (large (replicate 64 0x55)).bytes 60 0x54; whole = true }

pub damage_found : verdicts.judged few (state.tables_of few two_logins) 1 damaged ≡ verdicts.Must (Dropped (cause.plain rule.FcoeCrc))
unfolding verdicts.judged rules.rule_for heard.decoded heard.carried heard.is_flogi eth.decoded reading.decoded fc.decoded els.decoded capsule.decoded capsule.written crc.crc crc.remainder zones.joined
damage_found = refl
