-- Data frames, and which of them go on (FC-BB-5, "FCoE forwarding"; zones of FC-GS-6).
use Rattle.std.specs.Prelude.{◌≡◌, ℕ, Bool, true, false, not, ◌==◌, nat_lt, ◌&&◌, ◌∷◌, Option, Some, Ok, Err}
use Rattle.fab_base.specs.declared.values.Caught.{Caught}
use Rattle.fab_config.specs.Settings.{Settings, same_bytes}
use Rattle.eth_frames.specs.Ethernet as eth
use Rattle.fcoe_codec.specs.Fcoe as capsule
use Rattle.fab_policy.specs.Cause.{Cause}
use Rattle.heard_frames.specs.Heard.{What, Bad, Fip, Fcoe, decoded, d_id}
use Rattle.fab_policy.specs.Logins.{granted_mac}
use Rattle.fab_policy.specs.Journal.{Journal}
use Rattle.fab_policy.specs.Legal.{Legal}
use Rattle.fab_policy.specs.State.{Tables, LivePort, port_at, tables_of}
use Rattle.fab_policy.specs.Rules.{rule_for, is_class3, holds, joined, SERVICES}
use Rattle.fab_policy.specs.Verdicts.{Must, judged}
use Rattle.fab_policy.specs.declared.event.Event.TheVariants.{Frame}
use Rattle.fab_policy.specs.declared.verdict.Verdict.{Verdict}
use Rattle.fab_policy.specs.declared.verdict.Verdict.TheVariants.{Forwarded, Dropped}

-- the captured frame is an FCoE frame that could be read and passes
abbrev pub is_frame : (eth.Eth × capsule.Fcoe → Bool) → What → Bool
is_frame passes (Fcoe f (Ok x)) = passes (f, x)
is_frame passes (Fcoe f (Err e)) = false
is_frame passes (Bad fault) = false
is_frame passes (Fip f m) = false

-- A data frame: FCoE without fault on the configured VLAN to the forwarder's MAC, of class 3, from one N_Port to another.
abbrev pub is_data : Settings → eth.Eth × capsule.Fcoe → Bool
is_data c (f, x) =
    eth.vlan_of_tag f.tag == c.vlan && same_bytes f.dst c.fcf_mac && is_class3 x
    && nat_lt x.frame.head.d_id SERVICES && not (x.frame.head.d_id == x.frame.head.s_id)

-- It is forwarded where its source MAC is the granted one of its S_ID, that address is live on this port, its D_ID is
-- live, and both port names are joined at the clock.
abbrev pub is_allowed : Settings → Tables → ℕ → eth.Eth × capsule.Fcoe → Bool
is_allowed c T port (f, x) =
    same_bytes f.src (granted_mac c x.frame.head.s_id)
    && holds (λ p. p.enode.port == port && holds (λ q. joined c T p.name q.name) (port_at x.frame.head.d_id T.ports)) (port_at x.frame.head.s_id T.ports)

-- the frame is a data frame, and is one that goes on
abbrev pub is_data_frame : Settings → Caught → Bool
is_data_frame c caught = is_frame (is_data c) (decoded caught)

abbrev pub forwards : Settings → Tables → ℕ → Caught → Bool
forwards c T port caught = is_frame (λ p. is_data c p && is_allowed c T port p) (decoded caught)

-- The verdict forwards to the port of this login, which is there; or it drops by this rule, which there is.
abbrev pub IsForwardedTo : Option LivePort → Verdict → Type 0
IsForwardedTo login verdict = (q : LivePort) × (login ≡ Some q) × (verdict ≡ Forwarded q.enode.port)

abbrev pub IsDroppedBy : Option Cause → Verdict → Type 0
IsDroppedBy rule verdict = (cause : Cause) × (rule ≡ Some cause) × (verdict ≡ Dropped cause)

-- A data frame goes on to the port of its destination's login exactly where it is allowed, and elsewhere is dropped by the first
-- rule of the table: its one verdict is so.
abbrev pub ForwardsExactly : Type 0
ForwardsExactly = (c : Settings) (T : Tables) (port : ℕ) (caught : Caught) → is_data_frame c caught ≡ true → (verdict : Verdict) × (judged c T port caught ≡ Must verdict)
    × (forwards c T port caught ≡ true → IsForwardedTo (port_at (d_id caught) T.ports) verdict)
    × (forwards c T port caught ≡ false → IsDroppedBy (rule_for c T port caught (decoded caught)) verdict)

-- So it is in each legal journal.
abbrev pub LegalForwards : Type 0
LegalForwards = (c : Settings) (J : Journal) (port index : ℕ) (caught : Caught) (verdict : Verdict) → Legal c (Frame port index caught verdict ∷ J) → is_data_frame c caught ≡ true →
    (forwards c (tables_of c J) port caught ≡ true → IsForwardedTo (port_at (d_id caught) (tables_of c J).ports) verdict)
    × (forwards c (tables_of c J) port caught ≡ false → IsDroppedBy (rule_for c (tables_of c J) port caught (decoded caught)) verdict)
