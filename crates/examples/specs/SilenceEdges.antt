-- Silence to the millisecond: two and a half periods are not too long, and half a millisecond more is.
use Rattle.std.specs.Prelude.{◌≡◌, [], ◌∷◌, refl, map}
use Rattle.fab_config.specs.Settings.{Settings}
use Rattle.fab_policy.specs.Journal.{Journal}
use Rattle.fab_policy.specs.State as state
use Rattle.heard_frames.specs.Heard as heard
use Rattle.fab_policy.specs.declared.event.Event.TheVariants.{Tick, Frame}
use Rattle.fab_policy.specs.declared.verdict.Verdict.TheVariants.{Granted, AliveNode, AlivePort}
use Rattle.eth_frames.specs.Ethernet as eth
use Rattle.fc_frames.specs.Frame as fc
use Rattle.fip_codec.specs.Message as fip
use Rattle.fip_codec.specs.Reading as reading
use Rattle.examples.specs.Given.{K, MAC_A, flogi_a, alive}

abbrev pub C : Settings
C = record K { pool = 1; period = 251 }

abbrev pub login : Journal
login = Frame 1 0 flogi_a (Granted 0x010100) ∷ Tick 1000 [] ∷ []

-- five halves of 251 are 627.5
pub enode_silence : map (λ m. state.addresses (state.overdue C (state.tables_of C login) m)) (1627 ∷ 1628 ∷ []) ≡ [] ∷ (0x010100 ∷ []) ∷ []
unfolding heard.carried heard.is_flogi eth.decoded reading.decoded fc.decoded
enode_silence = refl

pub enode_silence_of_even_periods : map (λ m. state.addresses (state.overdue (record C { period = 8000 }) (state.tables_of C login) m)) (21000 ∷ 21001 ∷ []) ≡ [] ∷ (0x010100 ∷ []) ∷ []
unfolding heard.carried heard.is_flogi eth.decoded reading.decoded fc.decoded
enode_silence_of_even_periods = refl

-- the ENode was heard at 200000, and its N_Port at 1000 alone
abbrev pub node_alive : Journal
node_alive = Frame 1 1 (alive MAC_A) AliveNode ∷ Tick 200000 [] ∷ login

pub port_silence : map (λ m. state.addresses (state.overdue (record C { period = 90000 }) (state.tables_of C node_alive) m)) (226000 ∷ 226001 ∷ []) ≡ [] ∷ (0x010100 ∷ []) ∷ []
unfolding heard.carried heard.is_flogi eth.decoded reading.decoded fc.decoded fip.written
port_silence = refl

-- the N_Port was heard at 200000, and its ENode at 1000 alone
abbrev pub port_alive : Journal
port_alive = Frame 1 1 (alive MAC_A) (AlivePort 0x010100) ∷ Tick 200000 [] ∷ login

pub node_silence : map (λ m. state.addresses (state.overdue (record C { period = 90000 }) (state.tables_of C port_alive) m)) (226000 ∷ 226001 ∷ []) ≡ [] ∷ (0x010100 ∷ []) ∷ []
unfolding heard.carried heard.is_flogi eth.decoded reading.decoded fc.decoded fip.written
node_silence = refl
