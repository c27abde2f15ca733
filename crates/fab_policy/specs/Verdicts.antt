-- The one verdict of each frame, but for the address that a grant chooses (FC-LS-2, FC-BB-5 and FC-GS-6, as each case
-- says; the pairs of reason and explanation are this project's profile).
use Rattle.std.specs.Prelude.{◌≡◌, ℕ, Bool, true, false, not, ◌==◌, nat_lt, nat_le, ◌&&◌, ◌||◌, if◌then◌else◌, IsTrue, List, [], ◌∷◌, length, filter, Some, None, Ok, Err}
use Rattle.std.specs.List.{list_any}
use Rattle.fab_base.specs.Fabric.{same_enode}
use Rattle.fab_base.specs.declared.values.Caught.{Caught}
use Rattle.fab_config.specs.Settings.{Settings, same_bytes}
use Rattle.fc_frames.specs.Frame as fc
use Rattle.fip_codec.specs.Message as fip
use Rattle.fip_codec.specs.declared.message.LoginKind.{LoginKind}
use Rattle.fip_codec.specs.declared.message.LoginKind.TheVariants.{Flogi, Fdisc, Logo}
use Rattle.els_messages.specs.Els as els
use Rattle.els_messages.specs.declared.LoginParms.{LoginParms}
use Rattle.ct_messages.specs.Ct as ct
use Rattle.heard_frames.specs.Heard.{What, Bad, Fip, Fcoe, decoded, sender, fc_of}
use Rattle.fab_policy.specs.Cause.{plain, cause_of_unreadable}
use Rattle.fab_policy.specs.Logins.{granted_mac}
use Rattle.fab_policy.specs.State.{Tables, LivePort, port_at}
use Rattle.fab_policy.specs.Free.{Request, is_free, has_free}
use Rattle.heard_frames.specs.Rows.{first_row}
use Rattle.fab_policy.specs.Rules.{rule_for, is_known, holds, is_els_request, is_els_reply, NAME_SERVER, SERVICES}
use Rattle.ct_messages.specs.Server.{Refusal, is_registration}
use Rattle.fab_policy.specs.Queries.{refusal}
use Rattle.fab_policy.specs.declared.verdict.Verdict.{Verdict}
use Rattle.fab_policy.specs.declared.verdict.Verdict.TheVariants.{Vlans, Advertised, Granted, Rejected, Logout, AliveNode, AlivePort, NsLogin, NsLogout, Watching, Registered, Answered, Refused, Noted, Forwarded, Dropped}
use Rattle.fab_policy.specs.declared.verdict.Rule.TheVariants as rule

-- A frame has one verdict, or is a login request to which any free address may be granted.
pub data Judgement : Type 0 where
  Must : (verdict : Verdict) → Judgement
  MayGrant : (request : Request) → Judgement

-- the verdict that rejects by these rows, or else another
abbrev pub unless_refused : List (Bool × Refusal) → Judgement → Judgement
unless_refused rows else_ = elim (first_row rows) [ Some r ↦ Must (Rejected r.0 r.1) | None ↦ else_ ]

-- ---- logins in FIP

abbrev pub request_of : LoginKind → ℕ → Caught → LoginParms → Request
request_of kind port caught p = record { flogi = is_first kind; enode = sender port caught; name = p.port_name }
  where
    is_first : LoginKind → Bool
    is_first Flogi = true
    is_first Fdisc = false
    is_first Logo = false

-- the logins that a request leaves: an accepted FLOGI ends those of its ENode
abbrev pub staying : Settings → Tables → Request → List LivePort
staying c T r = filter (λ p. not (r.flogi && same_enode p.enode r.enode)) T.ports

-- why a FLOGI or FDISC is refused, in the order of the tests
abbrev pub login_rows : Settings → Tables → ℕ → Caught → Bool → Request → LoginParms → List (Bool × Refusal)
login_rows c T port caught fp r p =
    (not fp, (0x0b, 0x2c))
    ∷ (not r.flogi && not (is_known c T port caught), (9, 0))
    ∷ (not (els.offers_class3 p), (0x0b, 0))
    ∷ (r.name == 0 || list_any (λ q. q.name == r.name) (staying c T r), (3, 0))
    ∷ (nat_le c.limit (length (staying c T r)) || not (has_free T r), (9, 0x29))
    ∷ []

abbrev pub login_judged : Settings → Tables → ℕ → Caught → Bool → LoginKind → LoginParms → Judgement
login_judged c T port caught fp kind p =
    let r = request_of kind port caught p in
    unless_refused (login_rows c T port caught fp r p) (MayGrant r)

-- a LOGO names a live login of its sender, by S_ID, granted MAC, address and port name
abbrev pub is_own_logout : Settings → Tables → ℕ → Caught → List ℕ → ℕ → ℕ → LivePort → Bool
is_own_logout c T port caught mac address name p =
    same_enode p.enode (sender port caught) && same_bytes mac (granted_mac c p.address) && address == p.address && name == p.name

abbrev pub frame_judged : Settings → Tables → ℕ → Caught → Bool → LoginKind → fc.Frame → List ℕ → Judgement
frame_judged c T port caught fp kind f mac =
    elim (els.payload_of f.payload) [
      | els.Flogi p ↦ login_judged c T port caught fp kind p
      | els.Fdisc p ↦ login_judged c T port caught fp kind p
      | els.Logo address name ↦
          unless_refused ((not (holds (is_own_logout c T port caught mac address name) (port_at f.head.s_id T.ports)), (3, 0)) ∷ []) (Must (Logout f.head.s_id))
      | _ ↦ Must (Dropped (plain rule.ElsKind))
    ]

abbrev pub fip_judged : Settings → Tables → ℕ → Caught → fip.Fip → Judgement
fip_judged c T port caught (fip.VlanAsk _ _) = Must Vlans
fip_judged c T port caught (fip.Solicit _ _ _ _ _) = Must Advertised
fip_judged c T port caught (fip.Keep _ None) = Must AliveNode
fip_judged c T port caught (fip.Keep _ (Some vx)) = Must (AlivePort vx.address)
fip_judged c T port caught (fip.Login kind fp l mac) = frame_judged c T port caught fp kind (fc_of l) mac
fip_judged c T port caught _ = Must (Dropped (plain rule.FipRole))

-- ---- frames in FCoE, of the live N_Port p

abbrev pub is_function : ℕ → Bool
is_function f = f == 1 || f == 2 || f == 3 || f == 255

abbrev pub els_judged : Settings → Tables → LivePort → fc.Frame → Judgement
els_judged c T p f =
    let to_names = f.head.d_id == NAME_SERVER in
    elim (els.payload_of f.payload) [
      | els.Plogi parms ↦ (if to_names
          then unless_refused ((not (els.offers_class3 parms), (0x0b, 0)) ∷ (not (parms.port_name == p.name) || nat_lt parms.size 256, (3, 0)) ∷ []) (Must NsLogin)
          else Must (Rejected 0x0b 0x2c))
      | els.Logo address name ↦ (if to_names then Must NsLogout else Must (Rejected 0x0b 0x2c))
      | els.Scr function ↦ (if to_names then Must (Rejected 0x0b 0x2c) else unless_refused ((not (is_function function), (3, 0)) ∷ []) (Must (Watching function)))
      | _ ↦ Must (Rejected 0x0b 0x2c)
    ]

abbrev pub ct_judged : Settings → Tables → LivePort → List ℕ → Judgement
ct_judged c T p payload =
    let read = ct.decoded payload in
    elim (refusal c T p read) [
      | Some r ↦ Must (Refused r.0 r.1)
      | None ↦ elim read [ Ok ask ↦ Must (if is_registration ask then Registered else Answered) | Err e ↦ Must (Refused 4 0) ]
    ]

-- a frame to a service
abbrev pub service_judged : Settings → Tables → fc.Frame → Judgement
service_judged c T f =
    elim (port_at f.head.s_id T.ports) [
      | None ↦ Must (Dropped (plain rule.SourceLogin))
      | Some p ↦ elim (is_els_reply f) [
        | true ↦ Must Noted
        | false ↦ elim (is_els_request f) [ true ↦ els_judged c T p f | false ↦ ct_judged c T p f.payload ]
      ]
    ]

-- a frame to an N_Port goes to the port of its login
abbrev pub fcoe_judged : Settings → Tables → fc.Frame → Judgement
fcoe_judged c T f =
    elim (nat_lt f.head.d_id SERVICES) [
      | true ↦ elim (port_at f.head.d_id T.ports) [ Some q ↦ Must (Forwarded q.enode.port) | None ↦ Must (Dropped (plain rule.DestLogin)) ]
      | false ↦ service_judged c T f
    ]

-- ---- any frame

abbrev pub message_judged : Settings → Tables → ℕ → Caught → What → Judgement
message_judged c T port caught (Bad fault) = Must (Dropped (cause_of_unreadable fault))
message_judged c T port caught (Fip f m) = fip_judged c T port caught m
message_judged c T port caught (Fcoe f (Ok x)) = fcoe_judged c T x.frame
message_judged c T port caught (Fcoe f (Err e)) = Must (Dropped (plain rule.FcoeLength))

-- The judgement of a frame that comes on a port over these tables: the first rule that drops it, or that of its message.
unfoldable pub judged : Settings → Tables → ℕ → Caught → Judgement
judged c T port caught =
    let what = decoded caught in
    elim (rule_for c T port caught what) [ Some cause ↦ Must (Dropped cause) | None ↦ message_judged c T port caught what ]

-- a verdict meets a judgement
abbrev pub Meets : Settings → Tables → Judgement → Verdict → Type 0
Meets c T (Must w) v = v ≡ w
Meets c T (MayGrant r) (Granted a) = IsTrue (is_free T r a)
Meets c T (MayGrant r) _ = ⊥

-- A verdict of the frame is right over these tables.
abbrev pub IsRight : Settings → Tables → ℕ → Caught → Verdict → Type 0
IsRight c T port caught v = Meets c T (judged c T port caught) v
