-- A second FLOGI of an ENode whose login is watched: two state changes with rising OX_IDs.
use Rattle.std.specs.Prelude.{◌≡◌, ℕ, List, [], ◌∷◌, ◌++◌, refl, map, drop}
use Rattle.fab_base.specs.Layout.{zeros}
use Rattle.fc_check.specs.Crc as crc
use Rattle.fab_policy.specs.Journal.{Journal}
use Rattle.fab_policy.specs.State as state
use Rattle.fab_policy.specs.Verdicts as verdicts
use Rattle.fab_policy.specs.Rules as rules
use Rattle.heard_frames.specs.Heard as heard
use Rattle.fab_policy.specs.Outputs as outs
use Rattle.fab_policy.specs.declared.event.Event.TheVariants.{Tick, Frame}
use Rattle.fab_policy.specs.declared.verdict.Verdict.TheVariants.{Granted, Watching}
use Rattle.eth_frames.specs.Ethernet as eth
use Rattle.fc_frames.specs.Frame as fc
use Rattle.fcoe_codec.specs.Fcoe as capsule
use Rattle.fip_codec.specs.Message as fip
use Rattle.fip_codec.specs.Reading as reading
use Rattle.els_messages.specs.Els as els
use Rattle.zone_rules.specs.Joined as zones
use Rattle.examples.specs.Given.{WITH_ZONE, FORWARDER, flogi_a, flogi_b, scr}

abbrev pub two_logins : Journal
two_logins = Frame 2 0 flogi_b (Granted 0x010101) ∷ Tick 1100 [] ∷ Frame 1 0 flogi_a (Granted 0x010100) ∷ Tick 1000 [] ∷ []

abbrev pub watched : Journal
watched = Tick 1300 [] ∷ Frame 2 1 (scr 0x010101) (Watching 3) ∷ Tick 1200 [] ∷ two_logins

pub watching : verdicts.judged WITH_ZONE (state.tables_of WITH_ZONE (Tick 1200 [] ∷ two_logins)) 2 (scr 0x010101) ≡ verdicts.Must (Watching 3)
unfolding verdicts.judged rules.rule_for heard.decoded heard.carried heard.is_flogi eth.decoded reading.decoded fc.decoded els.decoded capsule.decoded capsule.written crc.crc crc.remainder zones.joined
watching = refl

-- what is sent behind the accept
pub state_changes : map {B = ℕ × List ℕ} (λ s. (s.port, s.bytes)) (drop 1 (outs.outputs WITH_ZONE 2 watched (Frame 1 1 flogi_a (Granted 0x010100)))) ≡ (
  2,
  0x0e ∷ 0xfc ∷ 0 ∷ 1 ∷ 1 ∷ 1 ∷ FORWARDER ++ 0x81 ∷ 0 ∷ 0x60 ∷ 0x64 ∷ 0x89 ∷ 6 ∷ zeros 13 ++ 0x2e ∷
      0x22 ∷ 1 ∷ 1 ∷ 1 ∷ 0 ∷ 0xff ∷ 0xff ∷ 0xfd ∷ 1 ∷ 0x29 ∷ 0 ∷ 0 ∷ 0 ∷ 0 ∷ 0 ∷ 0 ∷ 0 ∷ 0 ∷ 0xff ∷ 0xff ∷ 0 ∷ 0 ∷ 0 ∷ 0 ∷
      0x61 ∷ 4 ∷ 0 ∷ 8 ∷ 0 ∷ 1 ∷ 1 ∷ 0 ∷ 0xec ∷ 0x69 ∷ 0x18 ∷ 0xec ∷ 0x42 ∷ 0 ∷ 0 ∷ 0 ∷ [],
)
    ∷ (
      2,
      0x0e ∷ 0xfc ∷ 0 ∷ 1 ∷ 1 ∷ 1 ∷ FORWARDER ++ 0x81 ∷ 0 ∷ 0x60 ∷ 0x64 ∷ 0x89 ∷ 6 ∷ zeros 13 ++ 0x2e ∷
          0x22 ∷ 1 ∷ 1 ∷ 1 ∷ 0 ∷ 0xff ∷ 0xff ∷ 0xfd ∷ 1 ∷ 0x29 ∷ 0 ∷ 0 ∷ 0 ∷ 0 ∷ 0 ∷ 0 ∷ 0 ∷ 1 ∷ 0xff ∷ 0xff ∷ 0 ∷ 0 ∷ 0 ∷ 0 ∷
          0x61 ∷ 4 ∷ 0 ∷ 8 ∷ 0 ∷ 1 ∷ 1 ∷ 0 ∷ 0x04 ∷ 0xb2 ∷ 0xe3 ∷ 0x55 ∷ 0x42 ∷ 0 ∷ 0 ∷ 0 ∷ [],
    ) ∷ []
unfolding outs.outputs_by outs.notices heard.carried heard.is_flogi eth.decoded reading.decoded fip.written els.written fc.decoded capsule.written crc.crc crc.remainder zones.joined
state_changes = refl
