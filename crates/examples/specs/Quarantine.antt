-- A pool of two addresses: one is free again for another name more than ten seconds after its login ended.
use Rattle.std.specs.Prelude.{◌≡◌, true, false, [], ◌∷◌, refl}
use Rattle.fab_config.specs.Settings.{Settings}
use Rattle.fab_policy.specs.Journal.{Journal}
use Rattle.fab_policy.specs.Free as free
use Rattle.fab_policy.specs.State as state
use Rattle.fab_policy.specs.Verdicts as verdicts
use Rattle.fab_policy.specs.Rules as rules
use Rattle.heard_frames.specs.Heard as heard
use Rattle.fab_policy.specs.Legal as legal
use Rattle.fab_policy.specs.declared.event.Event.TheVariants.{Tick, Frame}
use Rattle.fab_policy.specs.declared.verdict.Verdict.TheVariants.{Granted, Rejected, Logout}
use Rattle.eth_frames.specs.Ethernet as eth
use Rattle.fc_frames.specs.Frame as fc
use Rattle.fip_codec.specs.Message as fip
use Rattle.fip_codec.specs.Reading as reading
use Rattle.els_messages.specs.Els as els
use Rattle.examples.specs.Given.{K, MAC_A, MAC_C, NAME_A, NAME_C, flogi_a, flogi_b, flogi_c, logo}

abbrev pub TWO : Settings
TWO = record K { pool = 2 }

abbrev pub J5 : Journal
J5 = Tick 5000 [] ∷ Frame 3 0 flogi_c (Rejected 0x09 0x29) ∷ Tick 1200 [] ∷ Frame 2 0 flogi_b (Granted 0x010101) ∷ Tick 1100 [] ∷ Frame 1 0 flogi_a (Granted 0x010100) ∷ Tick 1000 [] ∷ []

abbrev pub J15 : Journal
J15 = Tick 15000 [] ∷ Tick 9000 [] ∷ Frame 1 1 (logo MAC_A 0x010100 NAME_A) (Logout 0x010100) ∷ J5

abbrev pub request : free.Request
request = record { flogi = true; enode = record { port = 3; mac = MAC_C }; name = NAME_C }

pub logout : verdicts.judged TWO (state.tables_of TWO J5) 1 (logo MAC_A 0x010100 NAME_A) ≡ verdicts.Must (Logout 0x010100)
unfolding verdicts.judged rules.rule_for heard.decoded heard.carried heard.is_flogi eth.decoded reading.decoded fc.decoded els.decoded fip.written
logout = refl

pub refused : verdicts.judged TWO (state.tables_of TWO J15) 3 flogi_c ≡ verdicts.Must (Rejected 0x09 0x29)
unfolding verdicts.judged rules.rule_for heard.decoded heard.carried heard.is_flogi eth.decoded reading.decoded fc.decoded els.decoded fip.written
refused = refl

pub free_again : free.is_free (state.tables_of TWO (Tick 15100 [] ∷ Frame 3 1 flogi_c (Rejected 0x09 0x29) ∷ J15)) request 0x010100 ≡ true
unfolding heard.carried heard.is_flogi eth.decoded reading.decoded fc.decoded fip.written
free_again = refl

pub still_taken : free.is_free (state.tables_of TWO (Tick 15100 [] ∷ Frame 3 1 flogi_c (Rejected 0x09 0x29) ∷ J15)) request 0x010101 ≡ false
unfolding heard.carried heard.is_flogi eth.decoded reading.decoded fc.decoded fip.written
still_taken = refl

-- the tick at 9000 is owed to an advertisement, and none is owed before it
pub owed : legal.is_owed_after TWO (Frame 1 1 (logo MAC_A 0x010100 NAME_A) (Logout 0x010100) ∷ J5) 9000 ≡ true
unfolding legal.is_tick_owed heard.carried heard.is_flogi eth.decoded reading.decoded fc.decoded fip.written
owed = refl

pub not_owed : legal.is_owed_after TWO (Frame 1 1 (logo MAC_A 0x010100 NAME_A) (Logout 0x010100) ∷ J5) 8900 ≡ false
unfolding legal.is_tick_owed heard.carried heard.is_flogi eth.decoded reading.decoded fc.decoded fip.written
not_owed = refl
