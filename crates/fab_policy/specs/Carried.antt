-- Laws of decoded frames: what a decoded frame says is what a journal reads from its bytes.
use Rattle.std.specs.Prelude.{◌≡◌, ℕ, ◌==◌, Bool, List, Some, None, Result, Ok}
use Rattle.fab_base.specs.declared.values.Caught.{Caught}
use Rattle.eth_frames.specs.Ethernet as eth
use Rattle.fcoe_codec.specs.Fcoe as capsule
use Rattle.fcoe_codec.specs.declared.FcoeFault.{FcoeFault}
use Rattle.fip_codec.specs.Message as fip
use Rattle.fip_codec.specs.declared.message.LoginKind.{LoginKind}
use Rattle.els_messages.specs.Els as els
use Rattle.els_messages.specs.declared.LoginParms.{LoginParms}
use Rattle.heard_frames.specs.Heard.{Fip, Fcoe, decoded, source, login_of, carried, fc_of, asked}
use Rattle.fab_policy.specs.Replies.{is_untagged, size_asked}

-- The sender of a frame is the source of its Ethernet header.
abbrev pub SourcesAreRead : Type 0
SourcesAreRead =
    ((caught : Caught) (f : eth.Eth) (m : fip.Fip) → decoded caught ≡ Fip f m → source caught ≡ f.src)
    × ((caught : Caught) (f : eth.Eth) (read : Result capsule.Fcoe FcoeFault) → decoded caught ≡ Fcoe f read → source caught ≡ f.src)

-- A login in FIP is read with its kind, and carries the FC frame of its descriptor.
abbrev pub LoginsAreCarried : Type 0
LoginsAreCarried = (caught : Caught) (f : eth.Eth) (kind : LoginKind) (fp : Bool) (l mac : List ℕ) → decoded caught ≡ Fip f (fip.Login kind fp l mac) →
    (login_of caught ≡ Some (kind, l)) × (carried caught ≡ fc_of l)

-- A body of FCoE carries its FC frame, and is no login in FIP.
abbrev pub BodiesAreCarried : Type 0
BodiesAreCarried = (caught : Caught) (f : eth.Eth) (x : capsule.Fcoe) → decoded caught ≡ Fcoe f (Ok x) → (carried caught ≡ x.frame) × (login_of caught ≡ None)

-- The parameters of a FLOGI, an FDISC or a PLOGI are those that the frame asks for.
abbrev pub ParmsAreAsked : Type 0
ParmsAreAsked = (caught : Caught) (p : LoginParms) →
    (els.payload_of (carried caught).payload ≡ els.Flogi p → asked caught ≡ p)
    × (els.payload_of (carried caught).payload ≡ els.Fdisc p → asked caught ≡ p)
    × (els.payload_of (carried caught).payload ≡ els.Plogi p → asked caught ≡ p)

-- A FIP frame counts as untagged by its tag, and a solicitation asks for its size.
abbrev pub AnswersAreAsked : Type 0
AnswersAreAsked =
    ((caught : Caught) (f : eth.Eth) (m : fip.Fip) → decoded caught ≡ Fip f m → is_untagged caught ≡ (eth.vlan_of_tag f.tag == 0))
    × ((caught : Caught) (f : eth.Eth) (from_fcf fp : Bool) (mac : List ℕ) (name size : ℕ) → decoded caught ≡ Fip f (fip.Solicit from_fcf fp mac name size) → size_asked caught ≡ size)
