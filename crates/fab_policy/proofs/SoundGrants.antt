-- What a judgement says of a login request that may be granted: its kind, ENode and name are those that the journal reads from
-- the same frame, no login that stays has its name, and there is room for it.
use Rattle.std.proofs.Common.{◌≡◌, ℕ, Bool, true, false, not, ◌==◌, ◌&&◌, ◌||◌, List, [], ◌∷◌, IsTrue, Option, Some, None, Ok, Err, refl, sym, ap, subst, ◌∙◌, nat_le, length}
use Rattle.std.specs.List.{list_any}
use Rattle.fab_base.specs.declared.values.Caught.{Caught}
use Rattle.fab_config.specs.Settings.{Settings}
use Rattle.eth_frames.specs.Ethernet as eth
use Rattle.fip_codec.specs.Message as fip
use Rattle.fip_codec.specs.declared.message.LoginKind.{LoginKind}
use Rattle.fip_codec.specs.declared.message.LoginKind.TheVariants.{Flogi, Fdisc, Logo}
use Rattle.els_messages.specs.Els as els
use Rattle.els_messages.specs.declared.LoginParms.{LoginParms}
use Rattle.fab_policy.specs.Cause.{Cause, plain}
use Rattle.heard_frames.specs.Heard.{What, Bad, Fip, Fcoe, decoded, sender, fc_of, login_of, carried, asked, is_flogi}
use Rattle.fab_policy.specs.State.{Tables, port_at}
use Rattle.fab_policy.specs.Free.{Request, has_free, is_free}
use Rattle.fab_policy.specs.Rules.{rule_for, holds, is_known}
use Rattle.ct_messages.specs.Server.{Refusal}
use Rattle.fab_policy.specs.Verdicts.{Judgement, Must, MayGrant, Meets, IsRight, judged, message_judged, fip_judged, frame_judged, login_judged, request_of, staying, unless_refused, is_own_logout}
use Rattle.fab_policy.specs.declared.verdict.Verdict.{Verdict}
use Rattle.fab_policy.specs.declared.verdict.Verdict.TheVariants.{Granted, Logout, Dropped}
use Rattle.fab_policy.specs.declared.verdict.Rule.TheVariants as rule
use Rattle.fab_policy.proofs.FcoeJudged.{IsOfFcoe, refused_or, body_of_fcoe}
use Rattle.fab_policy.proofs.Carried.{IsFipOf, fip_of, login_there, carried_there}
use Rattle.fab_policy.proofs.SoundParms.{SaysParms, says_parms}

abbrev is_grant : Verdict → Bool
is_grant (Granted a) = true
is_grant _ = false

-- A request that may be granted over these tables, of a frame that came on a port.
pub record IsAllowed (c : Settings) (T : Tables) (port : ℕ) (caught : Caught) (r : Request) : Type 0 where
  pub kind : r.flogi ≡ is_flogi caught
  pub enode : r.enode ≡ sender port caught
  pub name : r.name ≡ (asked caught).port_name
  pub other_names : list_any (λ q. q.name == r.name) (staying c T r) ≡ false
  pub room : nat_le c.limit (length (staying c T r)) ≡ false

-- A judgement grants nothing but to a request that is allowed.
abbrev GrantsAllowed : Settings → Tables → ℕ → Caught → Judgement → Type 0
GrantsAllowed c T port caught (Must v) = is_grant v ≡ false
GrantsAllowed c T port caught (MayGrant r) = IsAllowed c T port caught r

-- ---- which kind it is

-- a request is a FLOGI where its frame is one
kind_there : (port : ℕ) (caught : Caught) (kind : LoginKind) (l : List ℕ) (p : LoginParms) → login_of caught ≡ Some (kind, l) → (request_of kind port caught p).flogi ≡ is_flogi caught
unfolding is_flogi
kind_there port caught kind l p e = by_kind kind ∙ sym (ap (λ o. of_login o) e)
  where
    of_kind : LoginKind → Bool
    of_kind k = elim k as (λ _. Bool) [ Flogi ↦ true | Fdisc ↦ false | Logo ↦ false ]

    of_login : Option (LoginKind × List ℕ) → Bool
    of_login o = elim o as (λ _. Bool) [ None ↦ false | Some login ↦ of_kind login.0 ]

    by_kind : (k : LoginKind) → (request_of k port caught p).flogi ≡ of_kind k
    by_kind Flogi = refl
    by_kind Fdisc = refl
    by_kind Logo = refl

-- a judgement that a frame of FCoE can have grants nothing
never : (c : Settings) (T : Tables) (port : ℕ) (caught : Caught) (j : Judgement) → IsOfFcoe j → GrantsAllowed c T port caught j
never c T port caught (Must (Granted a)) h = absurd (cc)
never c T port caught (Must _) h = refl
never c T port caught (MayGrant r) h = absurd h

-- ---- logins

-- a request is allowed where none of the rows refuses it
by_rows : (c : Settings) (T : Tables) (port : ℕ) (caught : Caught) (r : Request) (fp known offered zero held full none : Bool) (r1 r2 r3 r4 r5 : Refusal) →
    (held ≡ false → full ≡ false → IsAllowed c T port caught r) →
    GrantsAllowed c T port caught (unless_refused ((fp, r1) ∷ (known, r2) ∷ (offered, r3) ∷ (zero || held, r4) ∷ (full || none, r5) ∷ []) (MayGrant r))
by_rows c T port caught r true known offered zero held full none r1 r2 r3 r4 r5 h = refl
by_rows c T port caught r false true offered zero held full none r1 r2 r3 r4 r5 h = refl
by_rows c T port caught r false false true zero held full none r1 r2 r3 r4 r5 h = refl
by_rows c T port caught r false false false true held full none r1 r2 r3 r4 r5 h = refl
by_rows c T port caught r false false false false true full none r1 r2 r3 r4 r5 h = refl
by_rows c T port caught r false false false false false true none r1 r2 r3 r4 r5 h = refl
by_rows c T port caught r false false false false false false true r1 r2 r3 r4 r5 h = refl
by_rows c T port caught r false false false false false false false r1 r2 r3 r4 r5 h = h refl refl

login_allowed : (c : Settings) (T : Tables) (port : ℕ) (caught : Caught) (fp : Bool) (kind : LoginKind) (l : List ℕ) (p : LoginParms) →
    login_of caught ≡ Some (kind, l) → carried caught ≡ fc_of l → p ≡ els.parms_of (fc_of l).payload → GrantsAllowed c T port caught (login_judged c T port caught fp kind p)
login_allowed c T port caught fp kind l p there is says =
    by_rows c T port caught r (not fp) (not r.flogi && not (is_known c T port caught)) (not (els.offers_class3 p)) (r.name == 0) (list_any (λ q. q.name == r.name) (staying c T r))
    (nat_le c.limit (length (staying c T r))) (not (has_free T r)) (0x0b, 0x2c) (9, 0) (0x0b, 0) (3, 0) (9, 0x29)
    (λ held full. record { kind = kind_there port caught kind l p there; enode = refl; name = ap (λ q. q.port_name) (says ∙ ap (λ f. els.parms_of f.payload) (sym is)); other_names = held; room = full })
  where
    r : Request
    r = request_of kind port caught p

frame_allowed : (c : Settings) (T : Tables) (port : ℕ) (caught : Caught) (fp : Bool) (kind : LoginKind) (l mac : List ℕ) →
    login_of caught ≡ Some (kind, l) → carried caught ≡ fc_of l → GrantsAllowed c T port caught (frame_judged c T port caught fp kind (fc_of l) mac)
frame_allowed c T port caught fp kind l mac there is = by_payload (els.payload_of (fc_of l).payload) (says_parms (fc_of l).payload)
  where
    by_payload : (v : els.Els) → SaysParms (fc_of l).payload v → GrantsAllowed c T port caught (elim v as (λ _. Judgement) [
      | els.Flogi p ↦ login_judged c T port caught fp kind p
      | els.Fdisc p ↦ login_judged c T port caught fp kind p
      | els.Logo address name ↦
          unless_refused ((not (holds (is_own_logout c T port caught mac address name) (port_at (fc_of l).head.s_id T.ports)), (3, 0)) ∷ []) (Must (Logout (fc_of l).head.s_id))
      | _ ↦ Must (Dropped (plain rule.ElsKind))
    ])
    by_payload (els.Flogi p) says = login_allowed c T port caught fp kind l p there is says
    by_payload (els.Fdisc p) says = login_allowed c T port caught fp kind l p there is says
    by_payload (els.Logo address name) says =
        refused_or (GrantsAllowed c T port caught) (λ r. refl) ((not (holds (is_own_logout c T port caught mac address name) (port_at (fc_of l).head.s_id T.ports)), (3, 0)) ∷ []) (Must (Logout (fc_of l).head.s_id)) refl
    by_payload _ says = refl

fip_allowed : (c : Settings) (T : Tables) (port : ℕ) (caught : Caught) (f : eth.Eth) (m : fip.Fip) → IsFipOf caught f m → GrantsAllowed c T port caught (fip_judged c T port caught m)
fip_allowed c T port caught f (fip.Login kind fp l mac) h = frame_allowed c T port caught fp kind l mac (login_there caught f kind fp l mac h) (carried_there caught f kind fp l mac h)
fip_allowed c T port caught f (fip.Keep mac None) h = refl
fip_allowed c T port caught f (fip.Keep mac (Some vx)) h = refl
fip_allowed c T port caught f _ h = refl

-- ---- any frame

pub judged_allowed : (c : Settings) (T : Tables) (port : ℕ) (caught : Caught) → GrantsAllowed c T port caught (judged c T port caught)
unfolding judged
judged_allowed c T port caught = by_rule (rule_for c T port caught (decoded caught)) (by_message (decoded caught) refl)
  where
    by_message : (w : What) → decoded caught ≡ w → GrantsAllowed c T port caught (message_judged c T port caught w)
    by_message (Bad fault) e = refl
    by_message (Fip f m) e = fip_allowed c T port caught f m (fip_of caught f m e)
    by_message (Fcoe f (Ok x)) e = never c T port caught _ (body_of_fcoe c T x.frame)
    by_message (Fcoe f (Err fault)) e = refl

    by_rule : (o : Option Cause) → GrantsAllowed c T port caught (message_judged c T port caught (decoded caught)) →
        GrantsAllowed c T port caught (elim o as (λ _. Judgement) [ Some cause ↦ Must (Dropped cause) | None ↦ message_judged c T port caught (decoded caught) ])
    by_rule None h = h
    by_rule (Some cause) h = refl

-- The request of a right grant is allowed, and the address is free for it.
pub granted_allowed : (c : Settings) (T : Tables) (port a : ℕ) (caught : Caught) → IsRight c T port caught (Granted a) → (r : Request) × IsAllowed c T port caught r × IsTrue (is_free T r a)
granted_allowed c T port a caught h = by_judgement (judged c T port caught) (judged_allowed c T port caught) h
  where
    by_judgement : (j : Judgement) → GrantsAllowed c T port caught j → Meets c T j (Granted a) → (r : Request) × IsAllowed c T port caught r × IsTrue (is_free T r a)
    by_judgement (Must v) g h = absurd (subst (λ w. is_grant w ≡ false → ⊥) h (λ e. cc) g)
    by_judgement (MayGrant r) g h = (r, g, h)
