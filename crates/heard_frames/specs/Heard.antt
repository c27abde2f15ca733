-- What a captured frame is, and what it asks.
use Rattle.std.specs.Prelude.{ℕ, Bool, true, false, ◌==◌, List, [], Option, Some, None, Result, Ok, Err}
use Rattle.fab_base.specs.Layout.{field}
use Rattle.fab_base.specs.declared.values.Caught.{Caught}
use Rattle.fab_base.specs.declared.values.Enode.{Enode}
use Rattle.eth_frames.specs.Ethernet as eth
use Rattle.fc_frames.specs.Frame as fc
use Rattle.fcoe_codec.specs.Fcoe as capsule
use Rattle.fcoe_codec.specs.declared.FcoeFault.{FcoeFault}
use Rattle.fip_codec.specs.Message as fip
use Rattle.fip_codec.specs.Reading as reading
use Rattle.fip_codec.specs.declared.message.LoginKind.{LoginKind}
use Rattle.fip_codec.specs.declared.message.LoginKind.TheVariants.{Flogi, Fdisc, Logo}
use Rattle.els_messages.specs.Els as els
use Rattle.ct_messages.specs.Ct as ct
use Rattle.els_messages.specs.declared.LoginParms.{LoginParms}
use Rattle.heard_frames.specs.declared.unreadable.Unreadable.{Unreadable}
use Rattle.heard_frames.specs.declared.unreadable.Unreadable.TheVariants as unreadable

-- ---- decoding

-- A captured frame has a fault, or is a FIP message, or a body of FCoE that was read or has a fault of its own.
pub data What : Type 0 where
  Bad : (fault : Unreadable) → What
  Fip : (frame : eth.Eth) (message : fip.Fip) → What
  Fcoe : (frame : eth.Eth) (read : Result capsule.Fcoe FcoeFault) → What

abbrev pub FCOE : ℕ
FCOE = 0x8906

abbrev pub FIP : ℕ
FIP = 0x8914

abbrev pub fip_in : eth.Eth → What
fip_in f = elim (reading.decoded f.body) [ Err fault ↦ Bad (unreadable.Fip fault) | Ok message ↦ Fip f message ]

abbrev pub frame_in : eth.Eth → What
frame_in f =
    elim (f.kind == FIP) [
      | true ↦ fip_in f
      | false ↦ elim (f.kind == FCOE) [ true ↦ Fcoe f (capsule.decoded f.body) | false ↦ Bad unreadable.Ethertype ]
    ]

-- The decoding of a captured frame: its first fault, or its message or body.
unfoldable pub decoded : Caught → What
decoded caught =
    elim caught.whole [
      | false ↦ Bad unreadable.Truncated
      | true ↦ elim (eth.decoded caught.bytes) [ Err fault ↦ Bad unreadable.EthShort | Ok f ↦ frame_in f ]
    ]

-- ---- parts of a frame

abbrev pub source : Caught → List ℕ
source caught = field caught.bytes 6 6

-- the ENode that sent a frame of a port
abbrev pub sender : ℕ → Caught → Enode
sender port caught = record { port = port; mac = source caught }

-- ---- the FC frame in it

abbrev pub NO_FRAME : fc.Frame
NO_FRAME = record { head = fc.header_of []; payload = [] }

abbrev pub fc_of : List ℕ → fc.Frame
fc_of l = elim (fc.decoded l) [ Ok f ↦ f | Err fault ↦ NO_FRAME ]

-- the kind and the FC frame of a FIP login
abbrev pub login_in : List ℕ → Option (LoginKind × List ℕ)
login_in body = elim (reading.decoded body) [ Ok (fip.Login kind fp l mac) ↦ Some (kind, l) | _ ↦ None ]

abbrev pub login_of : Caught → Option (LoginKind × List ℕ)
login_of caught =
    elim (eth.decoded caught.bytes) [ Err fault ↦ None | Ok f ↦ elim (f.kind == FIP) [ true ↦ login_in f.body | false ↦ None ] ]

-- the FC frame that a captured frame carries, in a FIP login or in FCoE, whatever its check says
unfoldable pub carried : Caught → fc.Frame
carried caught =
    elim (eth.decoded caught.bytes) [
      | Err fault ↦ NO_FRAME
      | Ok f ↦ elim (f.kind == FCOE) [
        | true ↦ capsule.frame_in (capsule.covered f.body)
        | false ↦ elim (login_of caught) [ None ↦ NO_FRAME | Some login ↦ fc_of login.1 ]
      ]
    ]

-- the S_ID of that frame
abbrev pub s_id : Caught → ℕ
s_id caught = (carried caught).head.s_id

-- its D_ID
abbrev pub d_id : Caught → ℕ
d_id caught = (carried caught).head.d_id

-- the parameters that the frame's login asks for
abbrev pub asked : Caught → LoginParms
asked caught = els.parms_of (carried caught).payload

-- the frame is a FLOGI
unfoldable pub is_flogi : Caught → Bool
is_flogi caught = elim (login_of caught) [ None ↦ false | Some login ↦ is_first login.0 ]
  where
    is_first : LoginKind → Bool
    is_first Flogi = true
    is_first Fdisc = false
    is_first Logo = false

-- the request to the name server that the frame carries
abbrev pub ask_of : Caught → ct.Ask
ask_of caught = elim (ct.decoded (carried caught).payload) [ Ok ask ↦ ask | Err fault ↦ ct.Unknown 0 ]
