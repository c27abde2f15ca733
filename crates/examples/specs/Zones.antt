-- A change of the active zone set: state changes of every N_Port whose joining with a watcher changes, and the frames that go on.
use Rattle.std.specs.Prelude.{◌≡◌, ℕ, true, false, [], ◌∷◌, refl, map}
use Rattle.fab_config.specs.Settings.{Settings}
use Rattle.fab_policy.specs.Journal.{Journal}
use Rattle.fab_policy.specs.State as state
use Rattle.fab_policy.specs.Verdicts as verdicts
use Rattle.fab_policy.specs.Forwarding as forwarding
use Rattle.fab_policy.specs.Rules as rules
use Rattle.heard_frames.specs.Heard as heard
use Rattle.fab_policy.specs.Cause as cause
use Rattle.fab_policy.specs.Legal as legal
use Rattle.fab_policy.specs.Outputs as outs
use Rattle.fab_policy.specs.declared.event.Event.TheVariants.{Tick, Frame}
use Rattle.fab_policy.specs.declared.verdict.Verdict.TheVariants.{Granted, Watching, Forwarded, Dropped}
use Rattle.fab_policy.specs.declared.verdict.Rule.TheVariants as rule
use Rattle.eth_frames.specs.Ethernet as eth
use Rattle.fc_check.specs.Crc as crc
use Rattle.fc_frames.specs.Frame as fc
use Rattle.fcoe_codec.specs.Fcoe as capsule
use Rattle.fip_codec.specs.Reading as reading
use Rattle.els_messages.specs.Els as els
use Rattle.zone_rules.specs.Joined as zones
use Rattle.examples.specs.Config.{zoned}
use Rattle.examples.specs.Given.{flogi_a, flogi_b, flogi_c, scr, fcp}

abbrev pub few : Settings
few = record zoned { pool = 4 }

abbrev pub logins : Journal
logins = Frame 3 0 flogi_c (Granted 0x010102) ∷ Tick 1200 [] ∷ Frame 2 0 flogi_b (Granted 0x010101) ∷ Tick 1100 [] ∷ Frame 1 0 flogi_a (Granted 0x010100) ∷ Tick 1000 [] ∷ []

abbrev pub watched : Journal
watched = Frame 3 1 (scr 0x010102) (Watching 3) ∷ Tick 1400 [] ∷ Frame 2 1 (scr 0x010101) (Watching 3) ∷ Tick 1300 [] ∷ logins

-- before the change A's data goes on to B and not to C
pub to_b : verdicts.judged few (state.tables_of few (Tick 1500 [] ∷ watched)) 1 (fcp 0x010100 0x010101) ≡ verdicts.Must (Forwarded 2)
unfolding verdicts.judged rules.rule_for heard.decoded heard.carried heard.is_flogi eth.decoded reading.decoded fc.decoded els.decoded capsule.decoded capsule.written crc.crc crc.remainder zones.joined
to_b = refl

pub not_to_b : verdicts.judged few (state.tables_of few (Tick 6000 [] ∷ Tick 5000 [] ∷ watched)) 1 (fcp 0x010100 0x010101) ≡ verdicts.Must (Dropped (cause.plain rule.Zone))
unfolding verdicts.judged rules.rule_for heard.decoded heard.carried heard.is_flogi eth.decoded reading.decoded fc.decoded els.decoded capsule.decoded capsule.written crc.crc crc.remainder zones.joined
not_to_b = refl

pub to_c : forwarding.forwards few (state.tables_of few (Tick 6000 [] ∷ Tick 5000 [] ∷ watched)) 1 (fcp 0x010100 0x010102) ≡ true
unfolding heard.decoded heard.carried heard.is_flogi eth.decoded reading.decoded fc.decoded els.decoded capsule.decoded capsule.written crc.crc crc.remainder zones.joined
to_c = refl

-- a tick is owed at the activation, and not a window before
pub owed : legal.is_owed_after few watched 5000 ≡ true
unfolding legal.is_tick_owed heard.carried heard.is_flogi eth.decoded reading.decoded fc.decoded capsule.written crc.crc crc.remainder
owed = refl

pub not_owed : legal.is_owed_after few watched 4900 ≡ false
unfolding legal.is_tick_owed heard.carried heard.is_flogi eth.decoded reading.decoded fc.decoded capsule.written crc.crc crc.remainder
not_owed = refl

-- who is told of whom: B and C of A
pub told : map {B = ℕ × ℕ} (λ n. (n.watcher, n.affected)) (outs.notices few (state.tables_of few watched) (state.tables_of few (Tick 5000 [] ∷ watched)) (Tick 5000 [])) ≡ (0x010101, 0x010100) ∷ (0x010102, 0x010100) ∷ []
unfolding outs.notices heard.carried heard.is_flogi eth.decoded reading.decoded fc.decoded capsule.written crc.crc crc.remainder zones.joined
told = refl
