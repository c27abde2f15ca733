-- A FLOGI, its verdict and the bytes of its accept; state changes of a second FLOGI.
use Rattle.std.specs.Prelude.{◌≡◌, true, [], ◌∷◌, ◌++◌, refl, Some, map}
use Rattle.fab_base.specs.Layout.{zeros}
use Rattle.fab_policy.specs.Journal.{Journal}
use Rattle.fab_policy.specs.Logins as logins
use Rattle.fab_policy.specs.Free as free
use Rattle.fab_policy.specs.State as state
use Rattle.fab_policy.specs.Verdicts as verdicts
use Rattle.fab_policy.specs.Rules as rules
use Rattle.heard_frames.specs.Heard as heard
use Rattle.fab_policy.specs.Outputs as outs
use Rattle.fab_policy.specs.declared.event.Event.{Event}
use Rattle.fab_policy.specs.declared.event.Event.TheVariants.{Tick, Frame}
use Rattle.fab_policy.specs.declared.verdict.Verdict.TheVariants.{Granted}
use Rattle.eth_frames.specs.Ethernet as eth
use Rattle.fc_frames.specs.Frame as fc
use Rattle.fip_codec.specs.Message as fip
use Rattle.fip_codec.specs.Reading as reading
use Rattle.els_messages.specs.Els as els
use Rattle.examples.specs.Given.{K, MAC_A, NAME_A, NODE_A, FORWARDER, flogi_a}

abbrev pub started : Journal
started = Tick 1000 [] ∷ []

abbrev pub request : free.Request
request = record { flogi = true; enode = record { port = 1; mac = MAC_A }; name = NAME_A }

pub judged : verdicts.judged K (state.tables_of K started) 1 flogi_a ≡ verdicts.MayGrant request
unfolding verdicts.judged rules.rule_for heard.decoded eth.decoded reading.decoded fc.decoded els.decoded
judged = refl

pub is_free : free.is_free (state.tables_of K started) request 0x010100 ≡ true
is_free = refl

abbrev pub granted : Event
granted = Frame 1 0 flogi_a (Granted 0x010100)

pub accept : map (λ s. s.bytes) (outs.outputs K 2 started granted) ≡
    (MAC_A ++ FORWARDER ++ 0x81 ∷ 0 ∷ 0x60 ∷ 0x64 ∷ 0x89 ∷ 0x14 ∷ 0x10 ∷ 0 ∷ 0 ∷ 2 ∷ 0 ∷ 2 ∷ 0 ∷ 0x26 ∷ 0x80 ∷ 0 ∷ 7 ∷ 0x24 ∷ 0 ∷ 0 ∷
    0x23 ∷ 1 ∷ 1 ∷ 0 ∷ 0 ∷ 0xff ∷ 0xff ∷ 0xfe ∷ 1 ∷ 0x98 ∷ 0 ∷ 0 ∷ 0 ∷ 0 ∷ 0 ∷ 0 ∷ 0 ∷ 1 ∷ 0xff ∷ 0xff ∷ 0 ∷ 0 ∷ 0 ∷ 0 ∷
    2 ∷ 0 ∷ 0 ∷ 0 ∷ 0x20 ∷ 0x20 ∷ 0 ∷ 0 ∷ 0x30 ∷ 0 ∷ 0x08 ∷ 0x40 ∷ 0 ∷ 0 ∷ 0x27 ∷ 0x10 ∷ 0 ∷ 0 ∷ 0x07 ∷ 0xd0 ∷ 0x20 ∷ 1 ∷ FORWARDER ++ 0x10 ∷ 0 ∷ FORWARDER
    ++ zeros 32 ++ 0x88 ∷ zeros 47 ++ 2 ∷ 2 ∷ 0x0e ∷ 0xfc ∷ 0 ∷ 1 ∷ 1 ∷ 0 ∷ []) ∷ []
unfolding outs.outputs_by outs.notices eth.decoded reading.decoded fip.written heard.carried heard.is_flogi els.written fc.decoded
accept = refl

-- the login stands
pub login : logins.login 0x010100 (granted ∷ started) ≡ Some (record { name = NAME_A; node = NODE_A; enode = record { port = 1; mac = MAC_A } })
unfolding eth.decoded reading.decoded heard.carried fc.decoded
login = refl
