-- What a frame of FCoE can be judged: VLANs aren't told, nothing is advertised, and no address is granted.
use Rattle.std.proofs.Common.{◌≡◌, ℕ, Bool, true, false, not, ◌==◌, ◌||◌, List, [], ◌∷◌, Option, Some, None, Result, Ok, Err, refl, nat_lt, if◌then◌else◌}
use Rattle.fab_config.specs.Settings.{Settings}
use Rattle.fc_frames.specs.Frame as fc
use Rattle.els_messages.specs.Els as els
use Rattle.ct_messages.specs.Ct as ct
use Rattle.ct_messages.specs.declared.CtFault.{CtFault}
use Rattle.ct_messages.specs.Server.{Refusal, is_registration}
use Rattle.fab_policy.specs.Cause.{plain}
use Rattle.fab_policy.specs.Queries.{refusal}
use Rattle.heard_frames.specs.Rows.{first_row}
use Rattle.fab_policy.specs.Rules.{is_els_reply, is_els_request, NAME_SERVER, SERVICES}
use Rattle.fab_policy.specs.State.{Tables, LivePort, port_at}
use Rattle.fab_policy.specs.Verdicts.{Judgement, Must, MayGrant, unless_refused, fcoe_judged, service_judged, els_judged, ct_judged, is_function}
use Rattle.fab_policy.specs.declared.verdict.Verdict.{Verdict}
use Rattle.fab_policy.specs.declared.verdict.Verdict.TheVariants.{Vlans, Advertised, Granted, Rejected, NsLogin, NsLogout, Watching, Refused, Registered, Answered, Noted, Forwarded, Dropped}
use Rattle.fab_policy.specs.declared.verdict.Rule.TheVariants as rule

-- the verdicts that a message of FIP alone can have
abbrev pub is_of_fip : Verdict → Bool
is_of_fip Vlans = true
is_of_fip Advertised = true
is_of_fip (Granted a) = true
is_of_fip _ = false

-- A judgement that a frame of FCoE can have.
abbrev pub IsOfFcoe : Judgement → Type 0
IsOfFcoe (Must v) = is_of_fip v ≡ false
IsOfFcoe (MayGrant r) = ⊥

-- what holds of each refusal, and where nothing is refused
pub refused_or : (P : Judgement → Type 0) → ((r : Refusal) → P (Must (Rejected r.0 r.1))) → (rows : List (Bool × Refusal)) (j : Judgement) → P j → P (unless_refused rows j)
refused_or P refused rows j h = by_row (first_row rows)
  where
    by_row : (o : Option Refusal) → P (elim o as (λ _. Judgement) [ Some r ↦ Must (Rejected r.0 r.1) | None ↦ j ])
    by_row None = h
    by_row (Some r) = refused r

els_of_fcoe : (c : Settings) (T : Tables) (p : LivePort) (f : fc.Frame) → IsOfFcoe (els_judged c T p f)
els_of_fcoe c T p f = by_payload (els.payload_of f.payload) (f.head.d_id == NAME_SERVER)
  where
    by_payload : (v : els.Els) (to_names : Bool) → IsOfFcoe (elim v as (λ _. Judgement) [
      | els.Plogi parms ↦ (if to_names
          then unless_refused ((not (els.offers_class3 parms), (0x0b, 0)) ∷ (not (parms.port_name == p.name) || nat_lt parms.size 256, (3, 0)) ∷ []) (Must NsLogin)
          else Must (Rejected 0x0b 0x2c))
      | els.Logo address name ↦ (if to_names then Must NsLogout else Must (Rejected 0x0b 0x2c))
      | els.Scr function ↦ (if to_names then Must (Rejected 0x0b 0x2c) else unless_refused ((not (is_function function), (3, 0)) ∷ []) (Must (Watching function)))
      | _ ↦ Must (Rejected 0x0b 0x2c)
    ])
    by_payload (els.Plogi parms) true = refused_or IsOfFcoe (λ r. refl) ((not (els.offers_class3 parms), (0x0b, 0)) ∷ (not (parms.port_name == p.name) || nat_lt parms.size 256, (3, 0)) ∷ []) (Must NsLogin) refl
    by_payload (els.Plogi parms) false = refl
    by_payload (els.Logo address name) true = refl
    by_payload (els.Logo address name) false = refl
    by_payload (els.Scr function) true = refl
    by_payload (els.Scr function) false = refused_or IsOfFcoe (λ r. refl) ((not (is_function function), (3, 0)) ∷ []) (Must (Watching function)) refl
    by_payload _ to_names = refl

ct_of_fcoe : (c : Settings) (T : Tables) (p : LivePort) (payload : List ℕ) → IsOfFcoe (ct_judged c T p payload)
ct_of_fcoe c T p payload = by_refusal (refusal c T p (ct.decoded payload)) (ct.decoded payload)
  where
    by_kind : (b : Bool) → is_of_fip (if b then Registered else Answered) ≡ false
    by_kind true = refl
    by_kind false = refl

    by_refusal : (o : Option Refusal) (read : Result ct.Ask CtFault) → IsOfFcoe (elim o as (λ _. Judgement) [
      | Some r ↦ Must (Refused r.0 r.1)
      | None ↦ elim read as (λ _. Judgement) [ Ok ask ↦ Must (if is_registration ask then Registered else Answered) | Err e ↦ Must (Refused 4 0) ]
    ])
    by_refusal (Some r) read = refl
    by_refusal None (Ok ask) = by_kind (is_registration ask)
    by_refusal None (Err e) = refl

service_of_fcoe : (c : Settings) (T : Tables) (f : fc.Frame) → IsOfFcoe (service_judged c T f)
service_of_fcoe c T f = by_port (port_at f.head.s_id T.ports) (is_els_reply f) (is_els_request f)
  where
    by_port : (o : Option LivePort) (reply request : Bool) → IsOfFcoe (elim o as (λ _. Judgement) [
      | None ↦ Must (Dropped (plain rule.SourceLogin))
      | Some p ↦ elim reply as (λ _. Judgement) [
        | true ↦ Must Noted
        | false ↦ elim request as (λ _. Judgement) [ true ↦ els_judged c T p f | false ↦ ct_judged c T p f.payload ]
      ]
    ])
    by_port None reply request = refl
    by_port (Some p) true request = refl
    by_port (Some p) false true = els_of_fcoe c T p f
    by_port (Some p) false false = ct_of_fcoe c T p f.payload

pub body_of_fcoe : (c : Settings) (T : Tables) (f : fc.Frame) → IsOfFcoe (fcoe_judged c T f)
body_of_fcoe c T f = by_address (nat_lt f.head.d_id SERVICES) (port_at f.head.d_id T.ports)
  where
    by_address : (to_port : Bool) (o : Option LivePort) → IsOfFcoe (elim to_port as (λ _. Judgement) [
      | true ↦ elim o as (λ _. Judgement) [ Some q ↦ Must (Forwarded q.enode.port) | None ↦ Must (Dropped (plain rule.DestLogin)) ]
      | false ↦ service_judged c T f
    ])
    by_address true (Some q) = refl
    by_address true None = refl
    by_address false o = service_of_fcoe c T f
