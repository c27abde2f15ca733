-- Data frames between two N_Ports that a zone joins, and why others are dropped.
use Rattle.std.specs.Prelude.{◌≡◌, ℕ, false, List, [], ◌∷◌, ◌++◌, refl, map, drop}
use Rattle.fab_base.specs.declared.values.Caught.{Caught}
use Rattle.fab_config.specs.Settings.{Settings}
use Rattle.fab_policy.specs.State as state
use Rattle.fab_policy.specs.Verdicts as verdicts
use Rattle.fab_policy.specs.Rules as rules
use Rattle.heard_frames.specs.Heard as heard
use Rattle.fab_policy.specs.Cause as cause
use Rattle.fab_policy.specs.Outputs as outs
use Rattle.fab_policy.specs.declared.event.Event.TheVariants.{Tick, Frame}
use Rattle.fab_policy.specs.declared.verdict.Verdict.TheVariants.{Forwarded, Rejected, Dropped}
use Rattle.fab_policy.specs.declared.verdict.Rule.TheVariants as rule
use Rattle.eth_frames.specs.Ethernet as eth
use Rattle.fc_check.specs.Crc as crc
use Rattle.fc_frames.specs.Frame as fc
use Rattle.fcoe_codec.specs.Fcoe as capsule
use Rattle.fip_codec.specs.Reading as reading
use Rattle.els_messages.specs.Els as els
use Rattle.zone_rules.specs.Joined as zones
use Rattle.examples.specs.Given.{K, WITH_ZONE, FORWARDER, fcp, fdisc_a, in_vlan, mac_of, data_head}
use Rattle.examples.specs.StateChange.{two_logins}

abbrev pub few : Settings
few = record WITH_ZONE { pool = 4 }

abbrev pub tables : state.Tables
tables = state.tables_of few two_logins

pub forwarded : verdicts.judged few tables 1 (fcp 0x010100 0x010101) ≡ verdicts.Must (Forwarded 2)
unfolding verdicts.judged rules.rule_for heard.decoded heard.carried heard.is_flogi eth.decoded reading.decoded fc.decoded els.decoded capsule.decoded capsule.written crc.crc crc.remainder zones.joined
forwarded = refl

-- the same bytes go on behind the two addresses
pub sent : map {B = ℕ × List ℕ} (λ s. (s.port, s.bytes)) (outs.outputs few 2 two_logins (Frame 1 1 (fcp 0x010100 0x010101) (Forwarded 2))) ≡
    (2, mac_of 0x010101 ++ FORWARDER ++ drop 12 (fcp 0x010100 0x010101).bytes) ∷ []
unfolding outs.outputs_by outs.notices heard.carried heard.is_flogi eth.decoded reading.decoded fc.decoded capsule.written crc.crc crc.remainder zones.joined
sent = refl

pub other_port : verdicts.judged few tables 2 (fcp 0x010100 0x010101) ≡ verdicts.Must (Dropped (cause.plain rule.SourcePort))
unfolding verdicts.judged rules.rule_for heard.decoded heard.carried heard.is_flogi eth.decoded reading.decoded fc.decoded els.decoded capsule.decoded capsule.written crc.crc crc.remainder zones.joined
other_port = refl

-- from the MAC of another address
abbrev pub forged : Caught
forged = in_vlan (mac_of 0x010101) 0x8906 (capsule.written (record { sof = 0x2e; eof = 0x42; frame = record { head = data_head 0x010100 0x010101; payload = [] } }))

pub other_mac : verdicts.judged few tables 1 forged ≡ verdicts.Must (Dropped (cause.plain rule.SourceMac))
unfolding verdicts.judged rules.rule_for heard.decoded heard.carried heard.is_flogi eth.decoded reading.decoded fc.decoded els.decoded capsule.decoded capsule.written crc.crc crc.remainder zones.joined
other_mac = refl

pub to_itself : verdicts.judged few tables 1 (fcp 0x010100 0x010100) ≡ verdicts.Must (Dropped (cause.plain rule.OwnAddress))
unfolding verdicts.judged rules.rule_for heard.decoded heard.carried heard.is_flogi eth.decoded reading.decoded fc.decoded els.decoded capsule.decoded capsule.written crc.crc crc.remainder zones.joined
to_itself = refl

pub to_nobody : verdicts.judged few tables 1 (fcp 0x010100 0x010102) ≡ verdicts.Must (Dropped (cause.plain rule.DestLogin))
unfolding verdicts.judged rules.rule_for heard.decoded heard.carried heard.is_flogi eth.decoded reading.decoded fc.decoded els.decoded capsule.decoded capsule.written crc.crc crc.remainder zones.joined
to_nobody = refl

-- without zones nobody is joined
pub without_zone : verdicts.judged K (state.tables_of K two_logins) 1 (fcp 0x010100 0x010101) ≡ verdicts.Must (Dropped (cause.plain rule.Zone))
unfolding verdicts.judged rules.rule_for heard.decoded heard.carried heard.is_flogi eth.decoded reading.decoded fc.decoded els.decoded capsule.decoded capsule.written crc.crc crc.remainder zones.joined
without_zone = refl

pub cut : verdicts.judged few tables 1 (record { bytes = (fcp 0x010100 0x010101).bytes; whole = false }) ≡ verdicts.Must (Dropped (cause.plain rule.Truncated))
unfolding verdicts.judged rules.rule_for heard.decoded
cut = refl

-- an FDISC of an ENode without a login
pub no_login : verdicts.judged K (state.tables_of K (Tick 1000 [] ∷ [])) 1 fdisc_a ≡ verdicts.Must (Rejected 0x09 0x00)
unfolding verdicts.judged rules.rule_for heard.decoded heard.carried heard.is_flogi eth.decoded reading.decoded fc.decoded els.decoded
no_login = refl
