-- Who is logged in at the name server has a receive size that answers can be cut at, and each watcher a function.
use Rattle.std.proofs.Common.{◌≡◌, ℕ, ◌-◌, ◌%◌, ◌≤◌, inl, inr, Bool, true, false, not, ◌==◌, ◌||◌, nat_lt, List, [], ◌∷◌, Option, Some, None, IfSome, Result, Ok, Err, refl, sym, ap, subst, ◌∙◌, arith, unwrap_or, if◌then◌else◌}
use Rattle.std.specs.Prelude.{min}
use Rattle.std.proofs.lemmas.Bool.{eqb-true}
use Rattle.std.proofs.lemmas.Bool.Decides.{nat_tests}
use Rattle.fab_base.specs.declared.values.Caught.{Caught}
use Rattle.fab_config.specs.Settings.{Settings}
use Rattle.fc_frames.specs.Frame as fc
use Rattle.fip_codec.specs.Message as fip
use Rattle.fip_codec.specs.declared.message.LoginKind.{LoginKind}
use Rattle.els_messages.specs.Els as els
use Rattle.els_messages.specs.declared.LoginParms.{LoginParms}
use Rattle.ct_messages.specs.Ct as ct
use Rattle.ct_messages.specs.declared.CtFault.{CtFault}
use Rattle.ct_messages.specs.Server.{Refusal, is_registration}
use Rattle.heard_frames.specs.Heard.{What, Bad, Fip, Fcoe, decoded, carried, asked, fc_of, s_id}
use Rattle.fab_policy.specs.Cause.{Cause, plain}
use Rattle.fab_policy.specs.Free.{Request}
use Rattle.fab_policy.specs.Legal.{IsRightEntry}
use Rattle.fab_policy.specs.Logins.{says_server, says_watch}
use Rattle.fab_policy.specs.Outputs.{state_of}
use Rattle.fab_policy.specs.Queries.{refusal}
use Rattle.fab_policy.specs.Rules.{NAME_SERVER, SERVICES, holds, is_els_reply, is_els_request, rule_for}
use Rattle.fab_policy.specs.State.{LivePort, Tables, port_at}
use Rattle.fab_policy.specs.Verdicts.{Judgement, MayGrant, Meets, Must, ct_judged, els_judged, fcoe_judged, fip_judged, frame_judged, is_function, is_own_logout, judged, login_judged, login_rows, message_judged, request_of, service_judged, unless_refused}
use Rattle.fab_policy.specs.declared.event.Event.{Event}
use Rattle.fab_policy.specs.declared.event.Event.TheVariants.{Tick, Frame}
use Rattle.fab_policy.specs.declared.verdict.Verdict.TheVariants.{Answered, Dropped, Forwarded, Logout, Noted, NsLogin, NsLogout, Refused, Registered, Rejected, Watching}
use Rattle.fab_policy.specs.declared.verdict.Rule.TheVariants as rule
use Rattle.fab_policy.proofs.Carried.{bodies_are_carried, parms_are_asked}
use Rattle.fab_policy.proofs.FcoeJudged.{refused_or}
use Rattle.fab_states.specs.States.{state_on}
use Rattle.fab_pieces.specs.Sound.{EachPort, EntriesKeepServed, IsCutSize, IsServed, JournalsAreServed, PiecesKeepServed}
use Rattle.fab_policy.proofs.After.{Came, live_after}
use Rattle.fab_pieces.proofs.JoinLemmas.{legal_first, states_are_on}
use Rattle.fab_pieces.proofs.SoundLemmas.{nobody_first}

-- ---- what a judgement says of a login to the name server, and of a watcher

abbrev Serves : Caught → Judgement → Type 0
Serves caught (Must NsLogin) = 256 ≤ (asked caught).size
Serves caught (Must (Watching f)) = is_function f ≡ true
Serves caught _ = Unit {0}

large : (n : ℕ) → nat_lt n 256 ≡ false → 256 ≤ n
large n e = grind (arith, nat_tests)

not_false : (b : Bool) → not b ≡ false → b ≡ true
not_false true e = refl
not_false false e = cc

-- a PLOGI is accepted where neither row refuses it
plogi_serves : (caught : Caught) (offered name small : Bool) (r1 r2 : Refusal) → (small ≡ false → 256 ≤ (asked caught).size) → Serves caught (unless_refused ((offered, r1) ∷ (name || small, r2) ∷ []) (Must NsLogin))
plogi_serves caught true name small r1 r2 h = tt
plogi_serves caught false true small r1 r2 h = tt
plogi_serves caught false false true r1 r2 h = tt
plogi_serves caught false false false r1 r2 h = h refl

scr_serves : (caught : Caught) (f : ℕ) (wrong : Bool) (r : Refusal) → (wrong ≡ false → is_function f ≡ true) → Serves caught (unless_refused ((wrong, r) ∷ []) (Must (Watching f)))
scr_serves caught f true r h = tt
scr_serves caught f false r h = h refl

els_serves : (c : Settings) (T : Tables) (caught : Caught) (p : LivePort) (f : fc.Frame) → carried caught ≡ f → Serves caught (els_judged c T p f)
els_serves c T caught p f is = by_payload (els.payload_of f.payload) refl (f.head.d_id == NAME_SERVER)
  where
    by_payload : (v : els.Els) → els.payload_of f.payload ≡ v → (to_names : Bool) → Serves caught (elim v as (λ _. Judgement) [
      | els.Plogi parms ↦ (if to_names
          then unless_refused ((not (els.offers_class3 parms), (0x0b, 0)) ∷ (not (parms.port_name == p.name) || nat_lt parms.size 256, (3, 0)) ∷ []) (Must NsLogin)
          else Must (Rejected 0x0b 0x2c))
      | els.Logo address name ↦ (if to_names then Must NsLogout else Must (Rejected 0x0b 0x2c))
      | els.Scr function ↦ (if to_names then Must (Rejected 0x0b 0x2c) else unless_refused ((not (is_function function), (3, 0)) ∷ []) (Must (Watching function)))
      | _ ↦ Must (Rejected 0x0b 0x2c)
    ])
    by_payload (els.Plogi parms) e true =
        plogi_serves caught (not (els.offers_class3 parms)) (not (parms.port_name == p.name)) (nat_lt parms.size 256) (0x0b, 0) (3, 0)
        (λ small. subst (λ (q : LoginParms). 256 ≤ q.size) (sym ((parms_are_asked caught parms).2 (ap (λ (x : fc.Frame). els.payload_of x.payload) is ∙ e))) (large parms.size small))
    by_payload (els.Plogi parms) e false = tt
    by_payload (els.Logo address name) e true = tt
    by_payload (els.Logo address name) e false = tt
    by_payload (els.Scr function) e true = tt
    by_payload (els.Scr function) e false = scr_serves caught function (not (is_function function)) (3, 0) (not_false (is_function function))
    by_payload _ e to_names = tt

ct_serves : (c : Settings) (T : Tables) (caught : Caught) (p : LivePort) (payload : List ℕ) → Serves caught (ct_judged c T p payload)
ct_serves c T caught p payload = by_refusal (refusal c T p (ct.decoded payload)) (ct.decoded payload)
  where
    by_kind : (b : Bool) → Serves caught (Must (if b then Registered else Answered))
    by_kind true = tt
    by_kind false = tt

    by_refusal : (o : Option Refusal) (read : Result ct.Ask CtFault) → Serves caught (elim o as (λ _. Judgement) [
      | Some r ↦ Must (Refused r.0 r.1)
      | None ↦ elim read as (λ _. Judgement) [ Ok ask ↦ Must (if is_registration ask then Registered else Answered) | Err e ↦ Must (Refused 4 0) ]
    ])
    by_refusal (Some r) read = tt
    by_refusal None (Ok ask) = by_kind (is_registration ask)
    by_refusal None (Err e) = tt

service_serves : (c : Settings) (T : Tables) (caught : Caught) (f : fc.Frame) → carried caught ≡ f → Serves caught (service_judged c T f)
service_serves c T caught f is = by_port (port_at f.head.s_id T.ports) (is_els_reply f) (is_els_request f)
  where
    by_port : (o : Option LivePort) (reply request : Bool) → Serves caught (elim o as (λ _. Judgement) [
      | None ↦ Must (Dropped (plain rule.SourceLogin))
      | Some p ↦ elim reply as (λ _. Judgement) [
        | true ↦ Must Noted
        | false ↦ elim request as (λ _. Judgement) [ true ↦ els_judged c T p f | false ↦ ct_judged c T p f.payload ]
      ]
    ])
    by_port None reply request = tt
    by_port (Some p) true request = tt
    by_port (Some p) false true = els_serves c T caught p f is
    by_port (Some p) false false = ct_serves c T caught p f.payload

body_serves : (c : Settings) (T : Tables) (caught : Caught) (f : fc.Frame) → carried caught ≡ f → Serves caught (fcoe_judged c T f)
body_serves c T caught f is = by_address (nat_lt f.head.d_id SERVICES) (port_at f.head.d_id T.ports)
  where
    by_address : (to_port : Bool) (o : Option LivePort) → Serves caught (elim to_port as (λ _. Judgement) [
      | true ↦ elim o as (λ _. Judgement) [ Some q ↦ Must (Forwarded q.enode.port) | None ↦ Must (Dropped (plain rule.DestLogin)) ]
      | false ↦ service_judged c T f
    ])
    by_address true (Some q) = tt
    by_address true None = tt
    by_address false o = service_serves c T caught f is

login_serves : (c : Settings) (T : Tables) (port : ℕ) (caught : Caught) (fp : Bool) (kind : LoginKind) (p : LoginParms) → Serves caught (login_judged c T port caught fp kind p)
login_serves c T port caught fp kind p =
    let r : Request = request_of kind port caught p in
    refused_or (Serves caught) (λ why. tt) (login_rows c T port caught fp r p) (MayGrant r) tt

frame_serves : (c : Settings) (T : Tables) (port : ℕ) (caught : Caught) (fp : Bool) (kind : LoginKind) (f : fc.Frame) (mac : List ℕ) → Serves caught (frame_judged c T port caught fp kind f mac)
frame_serves c T port caught fp kind f mac = by_payload (els.payload_of f.payload)
  where
    by_payload : (v : els.Els) → Serves caught (elim v as (λ _. Judgement) [
      | els.Flogi p ↦ login_judged c T port caught fp kind p
      | els.Fdisc p ↦ login_judged c T port caught fp kind p
      | els.Logo address name ↦
          unless_refused ((not (holds (is_own_logout c T port caught mac address name) (port_at f.head.s_id T.ports)), (3, 0)) ∷ []) (Must (Logout f.head.s_id))
      | _ ↦ Must (Dropped (plain rule.ElsKind))
    ])
    by_payload (els.Flogi p) = login_serves c T port caught fp kind p
    by_payload (els.Fdisc p) = login_serves c T port caught fp kind p
    by_payload (els.Logo address name) =
        refused_or (Serves caught) (λ r. tt) ((not (holds (is_own_logout c T port caught mac address name) (port_at f.head.s_id T.ports)), (3, 0)) ∷ []) (Must (Logout f.head.s_id)) tt
    by_payload _ = tt

fip_serves : (c : Settings) (T : Tables) (port : ℕ) (caught : Caught) (m : fip.Fip) → Serves caught (fip_judged c T port caught m)
fip_serves c T port caught (fip.Login kind fp l mac) = frame_serves c T port caught fp kind (fc_of l) mac
fip_serves c T port caught (fip.Keep mac None) = tt
fip_serves c T port caught (fip.Keep mac (Some vx)) = tt
fip_serves c T port caught _ = tt

judged_serves : (c : Settings) (T : Tables) (port : ℕ) (caught : Caught) → Serves caught (judged c T port caught)
unfolding judged
judged_serves c T port caught = by_rule (rule_for c T port caught (decoded caught)) (by_message (decoded caught) refl)
  where
    by_message : (w : What) → decoded caught ≡ w → Serves caught (message_judged c T port caught w)
    by_message (Bad fault) e = tt
    by_message (Fip f m) e = fip_serves c T port caught m
    by_message (Fcoe f (Ok x)) e = body_serves c T caught x.frame (bodies_are_carried caught f x e).0
    by_message (Fcoe f (Err fault)) e = tt

    by_rule : (o : Option Cause) → Serves caught (message_judged c T port caught (decoded caught)) →
        Serves caught (elim o as (λ _. Judgement) [ Some cause ↦ Must (Dropped cause) | None ↦ message_judged c T port caught (decoded caught) ])
    by_rule None h = h
    by_rule (Some cause) h = tt

met_login : (c : Settings) (T : Tables) (caught : Caught) (j : Judgement) → Serves caught j → Meets c T j NsLogin → 256 ≤ (asked caught).size
met_login c T caught (Must v) h e = subst (λ w. Serves caught (Must w)) (sym e) h
met_login c T caught (MayGrant r) h e = absurd e

met_watching : (c : Settings) (T : Tables) (caught : Caught) (f : ℕ) (j : Judgement) → Serves caught j → Meets c T j (Watching f) → is_function f ≡ true
met_watching c T caught f (Must v) h e = subst (λ w. Serves caught (Must w)) (sym e) h
met_watching c T caught f (MayGrant r) h e = absurd e

-- ---- one entry

cut_fits : (n : ℕ) → 256 ≤ n → IsCutSize (let size = min n 2112 in size - size % 4)
cut_fits n h = fits (min n 2112) (omega (arith, h)) (omega arith)
  where
    fits : (m : ℕ) → 256 ≤ m → m ≤ 2112 → IsCutSize (m - m % 4)
    fits m l u = (omega (arith, l), omega (arith, u), omega arith)

watch_fits : (f : ℕ) → is_function f ≡ true → (if f == 255 then 0 else f) ≤ 3
watch_fits f h = by (f == 255) (f == 1) refl (f == 2) refl (f == 3) refl h
  where
    by : (d : Bool) (a : Bool) → f == 1 ≡ a → (b : Bool) → f == 2 ≡ b → (e : Bool) → f == 3 ≡ e → (a || b || e || d) ≡ true → (if d then 0 else f) ≤ 3
    by true a i b j e k h = omega arith
    by false true i b j e k h = let same = eqb-true f 1 i in omega (arith, same)
    by false false i true j e k h = let same = eqb-true f 2 j in omega (arith, same)
    by false false i false j true k h = let same = eqb-true f 3 k in omega (arith, same)
    by false false i false j false k h = cc

server_said : (c : Settings) (T : Tables) (a : ℕ) (e : Event) → IsRightEntry c T e → IfSome (says_server a e) (λ o. IfSome o IsCutSize)
server_said c T a (Tick m ended) right = tt
server_said c T a (Frame port index caught NsLogin) right = by (a == s_id caught)
  where
    by : (b : Bool) → IfSome (if b then Some (Some (els.receive_size (asked caught))) else None) (λ o. IfSome o IsCutSize)
    by true = cut_fits (asked caught).size (met_login c T caught (judged c T port caught) (judged_serves c T port caught) right.1)
    by false = tt
server_said c T a (Frame port index caught NsLogout) right = by (a == s_id caught)
  where
    by : (b : Bool) → IfSome (let o : Option (Option ℕ) = if b then Some None else None in o) (λ o. IfSome o IsCutSize)
    by true = tt
    by false = tt
server_said c T a (Frame port index caught _) right = tt

watch_said : (c : Settings) (T : Tables) (a : ℕ) (e : Event) → IsRightEntry c T e → IfSome (says_watch a e) (λ f. f ≤ 3)
watch_said c T a (Tick m ended) right = tt
watch_said c T a (Frame port index caught (Watching f)) right = by (a == s_id caught)
  where
    by : (b : Bool) → IfSome (if b then Some (if f == 255 then 0 else f) else None) (λ n. n ≤ 3)
    by true = watch_fits f (met_watching c T caught f (judged c T port caught) (judged_serves c T port caught) right.1)
    by false = tt
watch_said c T a (Frame port index caught _) right = tt

said_or_old : {X : Type 0} → (P : X → Type 0) (o : Option X) (old : X) → IfSome o P → P old → P (unwrap_or o old)
said_or_old P None old h k = k
said_or_old P (Some x) old h k = h

came_served : (c : Settings) (T : Tables) (e : Event) → EachPort T IsServed → IsRightEntry c T e → (a : ℕ) (p : LivePort) → Came c T e a p → IsServed p
came_served c T e served right a p (inl f) = subst IsServed f.1 (tt, omega arith)
came_served c T e served right a p (inr s) =
    let was = served a s.0 s.1 in
    subst IsServed s.4
    (said_or_old (λ o. IfSome o IsCutSize) (says_server a e) s.0.server (server_said c T a e right) was.0, said_or_old (λ f. f ≤ 3) (says_watch a e) s.0.watch (watch_said c T a e right) was.1)

pub entries_keep_served : EntriesKeepServed
entries_keep_served c T e served right a p x = came_served c T e served right a p (live_after c T e a p x).3

pub pieces_keep_served : PiecesKeepServed
pieces_keep_served c S [] served legal = served
pieces_keep_served c S (e ∷ K) served legal = entries_keep_served c (state_on c S K).tables e (pieces_keep_served c S K served legal.0) legal.1

pub journals_are_served : JournalsAreServed
journals_are_served c J legal =
    subst (λ S. EachPort S.tables IsServed) (sym (states_are_on c J)) (pieces_keep_served c (state_of c []) J (λ a p x. absurd (nobody_first c a p x)) (legal_first c J legal))
