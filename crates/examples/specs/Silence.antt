-- Two logins of one ENode that falls silent: the tick that ends them, and its clear link message.
use Rattle.std.specs.Prelude.{◌≡◌, ℕ, [], ◌∷◌, refl, map, length}
use Rattle.fab_policy.specs.Journal.{Journal}
use Rattle.fab_policy.specs.State as state
use Rattle.fab_policy.specs.Verdicts as verdicts
use Rattle.fab_policy.specs.Rules as rules
use Rattle.heard_frames.specs.Heard as heard
use Rattle.fab_policy.specs.Cause as cause
use Rattle.fab_policy.specs.Outputs as outs
use Rattle.fab_policy.specs.declared.event.Event.{Event}
use Rattle.fab_policy.specs.declared.event.Event.TheVariants.{Tick, Frame}
use Rattle.fab_policy.specs.declared.verdict.Verdict.TheVariants.{Granted, AliveNode, Advertised, Dropped}
use Rattle.fab_policy.specs.declared.verdict.Rule.TheVariants as rule
use Rattle.eth_frames.specs.Ethernet as eth
use Rattle.fc_frames.specs.Frame as fc
use Rattle.fip_codec.specs.Message as fip
use Rattle.fip_codec.specs.Reading as reading
use Rattle.els_messages.specs.Els as els
use Rattle.examples.specs.Given.{K, MAC_A, MAC_B, flogi_a, fdisc_a, alive, solicitation}

abbrev pub silent : Journal
silent = Frame 2 0 (solicitation MAC_B) Advertised ∷ Tick 28000 [] ∷ Tick 25000 [] ∷ Tick 17000 [] ∷ Tick 9000 []
    ∷ Frame 1 2 (alive MAC_A) AliveNode ∷ Tick 8000 [] ∷ Frame 1 1 fdisc_a (Granted 0x010101) ∷ Tick 1100 [] ∷ Frame 1 0 flogi_a (Granted 0x010100) ∷ Tick 1000 [] ∷ []

pub not_yet : state.addresses (state.overdue K (state.tables_of K silent) 28000) ≡ []
unfolding heard.carried heard.is_flogi eth.decoded reading.decoded fc.decoded fip.written
not_yet = refl

pub overdue : state.addresses (state.overdue K (state.tables_of K silent) 28100) ≡ 0x010100 ∷ 0x010101 ∷ []
unfolding heard.carried heard.is_flogi eth.decoded reading.decoded fc.decoded fip.written
overdue = refl

abbrev pub end : Event
end = Tick 28100 (0x010100 ∷ 0x010101 ∷ [])

-- one message to A, of 88 bytes
pub cleared : map {B = ℕ × ℕ} (λ s. (s.port, length s.bytes)) (outs.outputs K 2 silent end) ≡ (1, 88) ∷ []
unfolding outs.outputs_by outs.notices heard.carried heard.is_flogi eth.decoded reading.decoded fc.decoded fip.written els.written
cleared = refl

-- a keep alive comes too late
pub too_late : verdicts.judged K (state.tables_of K (end ∷ silent)) 1 (alive MAC_A) ≡ verdicts.Must (Dropped (cause.plain rule.KeepaliveUnknown))
unfolding verdicts.judged rules.rule_for heard.decoded heard.carried heard.is_flogi eth.decoded reading.decoded fc.decoded els.decoded fip.written
too_late = refl
