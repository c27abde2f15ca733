-- Each judgement of a frame can be met by a verdict in range.
use Rattle.std.proofs.Common.{◌≡◌, ℕ, ◌<◌, Bool, true, false, not, ◌==◌, ◌&&◌, ◌||◌, IsTrue, List, [], ◌∷◌, length, Option, Some, None, Result, Ok, Err, refl, sym, ap, subst, ◌∙◌, arith, nat_lt, nat_le, if◌then◌else◌, lit<}
use Rattle.std.specs.List.{list_any}
use Rattle.std.proofs.lemmas.Bool.{eqb-true}
use Rattle.fab_base.specs.declared.values.Caught.{Caught}
use Rattle.fab_config.specs.Settings.{Settings, is_in_range}
use Rattle.eth_frames.specs.Ethernet as eth
use Rattle.fc_frames.specs.Frame as fc
use Rattle.fip_codec.specs.Message as fip
use Rattle.fip_codec.specs.declared.message.LoginKind.{LoginKind}
use Rattle.els_messages.specs.Els as els
use Rattle.els_messages.specs.declared.LoginParms.{LoginParms}
use Rattle.ct_messages.specs.Ct as ct
use Rattle.ct_messages.specs.declared.CtFault.{CtFault}
use Rattle.ct_messages.specs.declared.CtFault.TheVariants as ct_fault
use Rattle.ct_messages.specs.Server.{Refusal, Known, refused_if, is_registration, registration_refusal, query_refusal, types_refusal, known_at, known_by_name, of_type, is_port_type}
use Rattle.fab_policy.specs.Cause.{Cause, plain, cause_of_unreadable}
use Rattle.fab_policy.specs.Free.{Request, has_free}
use Rattle.heard_frames.specs.Heard.{What, Bad, Fip, Fcoe, decoded, source, fc_of}
use Rattle.fab_policy.specs.Journal.{Journal}
use Rattle.fab_policy.specs.Logins.{granted_mac}
use Rattle.fab_policy.specs.Queries.{refusal, ask_refusal, fault_refusal, known_to}
use Rattle.fab_policy.specs.Ranged.{IsRanged, IsRangedVerdict}
use Rattle.heard_frames.specs.Rows.{first_row}
use Rattle.fab_policy.specs.Rules.{rule_for, fip_rows, holds, is_known, is_els_reply, is_els_request, NAME_SERVER, SERVICES}
use Rattle.fab_policy.specs.State.{Tables, LivePort, tables_of, port_at}
use Rattle.fab_policy.specs.Verdicts.{Judgement, Must, MayGrant, Meets, judged, message_judged, fip_judged, frame_judged, login_judged, fcoe_judged, service_judged, els_judged, ct_judged, request_of, staying, unless_refused, is_own_logout, is_function}
use Rattle.fab_policy.specs.declared.verdict.Verdict.{Verdict}
use Rattle.fab_policy.specs.declared.verdict.Verdict.TheVariants.{Vlans, Advertised, Granted, Rejected, Logout, AliveNode, AlivePort, NsLogin, NsLogout, Watching, Registered, Answered, Refused, Noted, Forwarded, Dropped}
use Rattle.fab_policy.specs.declared.verdict.Rule.TheVariants as rule
use Rattle.fab_windows.specs.Onward.{VerdictsExist}
use Rattle.fab_windows.proofs.CauseLemmas.{IsRangedCause, IsRangedWhat, ranged_what, RangedIf, rules_ranged, all_false}
use Rattle.fab_windows.proofs.FaultLemmas.{are_bytes}
use Rattle.fab_windows.proofs.PoolLemmas.{live_small, live_on_port, holds_some, free_there}

-- some verdict in range meets a judgement
abbrev Met : Settings → Tables → Judgement → Type 0
Met c T j = (v : Verdict) × Meets c T j v × IsRangedVerdict v

-- ---- refusals

abbrev IsCode : Refusal → Type 0
IsCode r = (r.0 < 256) × (r.1 < 256)

abbrev CodeIf : Option Refusal → Type 0
CodeIf None = Unit {0}
CodeIf (Some r) = IsCode r

abbrev AreCodes : List (Bool × Refusal) → Type 0
AreCodes [] = Unit {0}
AreCodes (row ∷ rows) = IsCode row.1 × AreCodes rows

first_code : (rows : List (Bool × Refusal)) → AreCodes rows → CodeIf (first_row rows)
first_code [] h = tt
first_code (row ∷ rows) h = go row.0 (first_code rows h.1)
  where
    go : (b : Bool) → CodeIf (first_row rows) → CodeIf (elim b as (λ _. Option Refusal) [ true ↦ Some row.1 | false ↦ first_row rows ])
    go true later = h.0
    go false later = later

-- a refusal, or what else is judged where none of the rows refuses
refused_or : (c : Settings) (T : Tables) (rows : List (Bool × Refusal)) (j : Judgement) → AreCodes rows → (first_row rows ≡ None → Met c T j) → Met c T (unless_refused rows j)
refused_or c T rows j codes else_ = go (first_row rows) refl (first_code rows codes)
  where
    go : (o : Option Refusal) → first_row rows ≡ o → CodeIf o → Met c T (elim o as (λ _. Judgement) [ Some r ↦ Must (Rejected r.0 r.1) | None ↦ j ])
    go (Some r) is code = (Rejected r.0 r.1, refl, code)
    go None is code = else_ is

only_false : (b : Bool) (r : Refusal) → first_row ((not b, r) ∷ []) ≡ None → b ≡ true
only_false true r e = refl
only_false false r e = absurd (let w : Some r ≡ None = e in cc)

-- ---- logins

by_rows : (c : Settings) (T : Tables) (r : Request) (fp known offered name full none : Bool) → (none ≡ false → Met c T (MayGrant r)) →
    Met c T (unless_refused ((fp, (0x0b, 0x2c)) ∷ (known, (9, 0)) ∷ (offered, (0x0b, 0)) ∷ (name, (3, 0)) ∷ (full || none, (9, 0x29)) ∷ []) (MayGrant r))
by_rows c T r true known offered name full none h = (Rejected 0x0b 0x2c, refl, (lit< tt, lit< tt))
by_rows c T r false true offered name full none h = (Rejected 9 0, refl, (lit< tt, lit< tt))
by_rows c T r false false true name full none h = (Rejected 0x0b 0, refl, (lit< tt, lit< tt))
by_rows c T r false false false true full none h = (Rejected 3 0, refl, (lit< tt, lit< tt))
by_rows c T r false false false false true none h = (Rejected 9 0x29, refl, (lit< tt, lit< tt))
by_rows c T r false false false false false true h = (Rejected 9 0x29, refl, (lit< tt, lit< tt))
by_rows c T r false false false false false false h = h refl

not_false : (b : Bool) → not b ≡ false → b ≡ true
not_false true e = refl
not_false false e = absurd (let w : true ≡ false = e in cc)

function_small : (f : ℕ) → is_function f ≡ true → f < 256
function_small f e = go (f == 1) refl (f == 2) refl (f == 3) refl (f == 255) refl e
  where
    go : (a : Bool) → (f == 1) ≡ a → (b : Bool) → (f == 2) ≡ b → (d : Bool) → (f == 3) ≡ d → (g : Bool) → (f == 255) ≡ g → (a || b || d || g) ≡ true → f < 256
    go true a b _ d _ g _ t = let is = eqb-true f 1 a in omega (arith, is)
    go false _ true b d _ g _ t = let is = eqb-true f 2 b in omega (arith, is)
    go false _ false _ true d g _ t = let is = eqb-true f 3 d in omega (arith, is)
    go false _ false _ false _ true g t = let is = eqb-true f 255 g in omega (arith, is)
    go false _ false _ false _ false _ t = absurd (let w : false ≡ true = t in cc)

module _ (c : Settings) (J : Journal) (range : IsTrue (is_in_range c)) (ranged : IsRanged J) where
  login_met : (port : ℕ) (caught : Caught) (fp : Bool) (kind : LoginKind) (p : LoginParms) → Met c (tables_of c J) (login_judged c (tables_of c J) port caught fp kind p)
  login_met port caught fp kind p =
      by_rows c (tables_of c J) r (not fp) (not r.flogi && not (is_known c (tables_of c J) port caught)) (not (els.offers_class3 p))
      (r.name == 0 || list_any (λ q. q.name == r.name) (staying c (tables_of c J) r)) (nat_le c.limit (length (staying c (tables_of c J) r))) (not (has_free (tables_of c J) r))
      (λ none. let x = free_there c J r range (not_false (has_free (tables_of c J) r) none) in (Granted x.0, x.1, x.2))
    where
      r : Request
      r = request_of kind port caught p

  frame_met : (port : ℕ) (caught : Caught) (fp : Bool) (kind : LoginKind) (f : fc.Frame) (mac : List ℕ) → Met c (tables_of c J) (frame_judged c (tables_of c J) port caught fp kind f mac)
  frame_met port caught fp kind f mac = by_payload (els.payload_of f.payload)
    where
      by_payload : (v : els.Els) → Met c (tables_of c J) (elim v as (λ _. Judgement) [
        | els.Flogi p ↦ login_judged c (tables_of c J) port caught fp kind p
        | els.Fdisc p ↦ login_judged c (tables_of c J) port caught fp kind p
        | els.Logo address name ↦
            unless_refused ((not (holds (is_own_logout c (tables_of c J) port caught mac address name) (port_at f.head.s_id (tables_of c J).ports)), (3, 0)) ∷ []) (Must (Logout f.head.s_id))
        | _ ↦ Must (Dropped (plain rule.ElsKind))
      ])
      by_payload (els.Flogi p) = login_met port caught fp kind p
      by_payload (els.Fdisc p) = login_met port caught fp kind p
      by_payload (els.Logo address name) =
          refused_or c (tables_of c J) ((not (holds (is_own_logout c (tables_of c J) port caught mac address name) (port_at f.head.s_id (tables_of c J).ports)), (3, 0)) ∷ []) (Must (Logout f.head.s_id)) ((lit< tt, lit< tt), tt)
          (λ none.
          let own = holds_some (is_own_logout c (tables_of c J) port caught mac address name) (port_at f.head.s_id (tables_of c J).ports) (only_false (holds (is_own_logout c (tables_of c J) port caught mac address name) (port_at f.head.s_id (tables_of c J).ports)) (3, 0) none) in
          (Logout f.head.s_id, refl, live_small c J f.head.s_id own.0 range own.1))
      by_payload _ = (Dropped (plain rule.ElsKind), refl, (refl, tt))

  -- a keep alive of an N_Port that no rule drops is of one that is logged in
  fip_met : (port : ℕ) (caught : Caught) (f : eth.Eth) (m : fip.Fip) → first_row (fip_rows c (tables_of c J) port caught f m) ≡ None → Met c (tables_of c J) (fip_judged c (tables_of c J) port caught m)
  fip_met port caught f (fip.VlanAsk mac name) none = (Vlans, refl, tt)
  fip_met port caught f (fip.Solicit a b d e g) none = (Advertised, refl, tt)
  fip_met port caught f (fip.Keep mac None) none = (AliveNode, refl, tt)
  fip_met port caught f (fip.Keep mac (Some vx)) none =
      let rows = all_false (fip_rows c (tables_of c J) port caught f (fip.Keep mac (Some vx))) none in
      let known = not_false _ rows.1.1.1.1.1.1.0 in
      let own = holds_some _ (port_at vx.address (tables_of c J).ports) known in
      (AlivePort vx.address, refl, live_small c J vx.address own.0 range own.1)
  fip_met port caught f (fip.Login kind fp l mac) none = frame_met port caught fp kind (fc_of l) mac
  fip_met port caught f _ none = (Dropped (plain rule.FipRole), refl, (refl, tt))

  -- ---- services

  els_met : (p : LivePort) (f : fc.Frame) → Met c (tables_of c J) (els_judged c (tables_of c J) p f)
  els_met p f = by_payload (els.payload_of f.payload) (f.head.d_id == NAME_SERVER)
    where
      by_payload : (v : els.Els) (to_names : Bool) → Met c (tables_of c J) (elim v as (λ _. Judgement) [
        | els.Plogi parms ↦ (if to_names
            then unless_refused ((not (els.offers_class3 parms), (0x0b, 0)) ∷ (not (parms.port_name == p.name) || nat_lt parms.size 256, (3, 0)) ∷ []) (Must NsLogin)
            else Must (Rejected 0x0b 0x2c))
        | els.Logo address name ↦ (if to_names then Must NsLogout else Must (Rejected 0x0b 0x2c))
        | els.Scr function ↦ (if to_names then Must (Rejected 0x0b 0x2c) else unless_refused ((not (is_function function), (3, 0)) ∷ []) (Must (Watching function)))
        | _ ↦ Must (Rejected 0x0b 0x2c)
      ])
      by_payload (els.Plogi parms) true =
          refused_or c (tables_of c J) ((not (els.offers_class3 parms), (0x0b, 0)) ∷ (not (parms.port_name == p.name) || nat_lt parms.size 256, (3, 0)) ∷ []) (Must NsLogin)
          ((lit< tt, lit< tt), ((lit< tt, lit< tt), tt)) (λ none. (NsLogin, refl, tt))
      by_payload (els.Plogi parms) false = (Rejected 0x0b 0x2c, refl, (lit< tt, lit< tt))
      by_payload (els.Logo address name) true = (NsLogout, refl, tt)
      by_payload (els.Logo address name) false = (Rejected 0x0b 0x2c, refl, (lit< tt, lit< tt))
      by_payload (els.Scr function) true = (Rejected 0x0b 0x2c, refl, (lit< tt, lit< tt))
      by_payload (els.Scr function) false =
          refused_or c (tables_of c J) ((not (is_function function), (3, 0)) ∷ []) (Must (Watching function)) ((lit< tt, lit< tt), tt)
          (λ none. (Watching function, refl, function_small function (only_false (is_function function) (3, 0) none)))
      by_payload _ to_names = (Rejected 0x0b 0x2c, refl, (lit< tt, lit< tt))

  code_if : (t : Bool) (a b : ℕ) → a < 256 → b < 256 → CodeIf (refused_if t a b)
  code_if true a b la lb = (la, lb)
  code_if false a b la lb = tt

  types_code : (o : Option Known) → CodeIf (types_refusal o)
  types_code None = (lit< tt, lit< tt)
  types_code (Some p) = code_if _ 9 7 (lit< tt) (lit< tt)

  query_code : (ports : List Known) (ask : ct.Ask) → CodeIf (query_refusal ports ask)
  query_code ports (ct.Unknown command) = (lit< tt, lit< tt)
  query_code ports (ct.PortNameOf a) = code_if _ 9 1 (lit< tt) (lit< tt)
  query_code ports (ct.NodeNameOf a) = code_if _ 9 1 (lit< tt) (lit< tt)
  query_code ports (ct.TypesOf a) = types_code (known_at a ports)
  query_code ports (ct.FeaturesOf a) = code_if _ 9 1 (lit< tt) (lit< tt)
  query_code ports (ct.ByPortName name) = code_if _ 9 2 (lit< tt) (lit< tt)
  query_code ports (ct.AddressesOfType t) = code_if _ 9 7 (lit< tt) (lit< tt)
  query_code ports (ct.PortNamesOfType t) = code_if _ 9 7 (lit< tt) (lit< tt)
  query_code ports (ct.NodeNamesOfType t) = code_if _ 9 7 (lit< tt) (lit< tt)
  query_code ports (ct.AddressesOfPortType t) = code_if _ 9 0 (lit< tt) (lit< tt)
  query_code ports _ = tt

  registration_code : (address node_name : ℕ) (ask : ct.Ask) → CodeIf (registration_refusal address node_name ask)
  registration_code address node_name (ct.SetNode a name) = code_if _ 9 1 (lit< tt) (lit< tt)
  registration_code address node_name (ct.SetTypes a types) = code_if _ 9 1 (lit< tt) (lit< tt)
  registration_code address node_name (ct.SetSymbol a symbol) = code_if _ 9 1 (lit< tt) (lit< tt)
  registration_code address node_name (ct.SetFeature a feature kind) = code_if _ 9 1 (lit< tt) (lit< tt)
  registration_code address node_name (ct.Erase a) = code_if _ 9 1 (lit< tt) (lit< tt)
  registration_code address node_name (ct.SetNodeSymbol name symbol) = code_if _ 9 3 (lit< tt) (lit< tt)
  registration_code address node_name _ = tt

  ask_code : (p : LivePort) (ask : ct.Ask) (registers : Bool) →
      CodeIf (if registers then registration_refusal p.address p.values.node_name ask else query_refusal (known_to c (tables_of c J) p) ask)
  ask_code p ask true = registration_code p.address p.values.node_name ask
  ask_code p ask false = query_code (known_to c (tables_of c J) p) ask

  fault_code : (e : CtFault) → IsCode (fault_refusal e)
  fault_code ct_fault.Short = (lit< tt, lit< tt)
  fault_code ct_fault.NotNameServer = (lit< tt, lit< tt)
  fault_code ct_fault.Size = (lit< tt, lit< tt)

  refusal_code : (p : LivePort) (read : Result ct.Ask CtFault) (stranger : Bool) →
      CodeIf (if stranger then Some (9, 0x10) else elim read as (λ _. Option Refusal) [ Err e ↦ Some (fault_refusal e) | Ok ask ↦ ask_refusal c (tables_of c J) p ask ])
  refusal_code p read true = (lit< tt, lit< tt)
  refusal_code p (Err e) false = fault_code e
  refusal_code p (Ok ask) false = ask_code p ask (is_registration ask)

  ct_met : (p : LivePort) (payload : List ℕ) → Met c (tables_of c J) (ct_judged c (tables_of c J) p payload)
  ct_met p payload = by_refusal (refusal c (tables_of c J) p (ct.decoded payload)) (ct.decoded payload) (refusal_code p (ct.decoded payload) _)
    where
      by_kind : (b : Bool) → Met c (tables_of c J) (Must (if b then Registered else Answered))
      by_kind true = (Registered, refl, tt)
      by_kind false = (Answered, refl, tt)

      by_refusal : (o : Option Refusal) (read : Result ct.Ask CtFault) → CodeIf o → Met c (tables_of c J) (elim o as (λ _. Judgement) [
        | Some r ↦ Must (Refused r.0 r.1)
        | None ↦ elim read as (λ _. Judgement) [ Ok ask ↦ Must (if is_registration ask then Registered else Answered) | Err e ↦ Must (Refused 4 0) ]
      ])
      by_refusal (Some r) read code = (Refused r.0 r.1, refl, code)
      by_refusal None (Ok ask) code = by_kind (is_registration ask)
      by_refusal None (Err e) code = (Refused 4 0, refl, (lit< tt, lit< tt))

  service_met : (f : fc.Frame) → Met c (tables_of c J) (service_judged c (tables_of c J) f)
  service_met f = by_port (port_at f.head.s_id (tables_of c J).ports) (is_els_reply f) (is_els_request f)
    where
      by_port : (o : Option LivePort) (reply request : Bool) → Met c (tables_of c J) (elim o as (λ _. Judgement) [
        | None ↦ Must (Dropped (plain rule.SourceLogin))
        | Some p ↦ elim reply as (λ _. Judgement) [
          | true ↦ Must Noted
          | false ↦ elim request as (λ _. Judgement) [ true ↦ els_judged c (tables_of c J) p f | false ↦ ct_judged c (tables_of c J) p f.payload ]
        ]
      ])
      by_port None reply request = (Dropped (plain rule.SourceLogin), refl, (refl, tt))
      by_port (Some p) true request = (Noted, refl, tt)
      by_port (Some p) false true = els_met p f
      by_port (Some p) false false = ct_met p f.payload

  fcoe_met : (f : fc.Frame) → Met c (tables_of c J) (fcoe_judged c (tables_of c J) f)
  fcoe_met f = by_address (nat_lt f.head.d_id SERVICES) (port_at f.head.d_id (tables_of c J).ports) refl
    where
      by_address : (to_port : Bool) (o : Option LivePort) → port_at f.head.d_id (tables_of c J).ports ≡ o → Met c (tables_of c J) (elim to_port as (λ _. Judgement) [
        | true ↦ elim o as (λ _. Judgement) [ Some q ↦ Must (Forwarded q.enode.port) | None ↦ Must (Dropped (plain rule.DestLogin)) ]
        | false ↦ service_judged c (tables_of c J) f
      ])
      by_address true (Some q) is = (Forwarded q.enode.port, refl, live_on_port c J f.head.d_id q ranged is)
      by_address true None is = (Dropped (plain rule.DestLogin), refl, (refl, tt))
      by_address false o is = service_met f

  -- ---- any frame

  message_met : (port : ℕ) (caught : Caught) (w : What) → IsRangedWhat w → rule_for c (tables_of c J) port caught w ≡ None → Met c (tables_of c J) (message_judged c (tables_of c J) port caught w)
  unfolding rule_for
  message_met port caught (Bad fault) h none = (Dropped (cause_of_unreadable fault), refl, h)
  message_met port caught (Fip f m) h none = fip_met port caught f m none
  message_met port caught (Fcoe f (Ok x)) h none = fcoe_met x.frame
  message_met port caught (Fcoe f (Err e)) h none = (Dropped (plain rule.FcoeLength), refl, (refl, tt))

  judged_met : (port : ℕ) (caught : Caught) → IsRangedWhat (decoded caught) → Met c (tables_of c J) (judged c (tables_of c J) port caught)
  unfolding judged
  judged_met port caught h = by_rule (rule_for c (tables_of c J) port caught (decoded caught)) refl (rules_ranged c (tables_of c J) port caught (decoded caught) h)
    where
      by_rule : (o : Option Cause) → rule_for c (tables_of c J) port caught (decoded caught) ≡ o → RangedIf o →
          Met c (tables_of c J) (elim o as (λ _. Judgement) [ Some cause ↦ Must (Dropped cause) | None ↦ message_judged c (tables_of c J) port caught (decoded caught) ])
      by_rule None is in_range = message_met port caught (decoded caught) h is
      by_rule (Some cause) is in_range = (Dropped cause, refl, in_range)

pub verdicts_exist : VerdictsExist
verdicts_exist c J port caught range ranged bytes = judged_met c J range ranged port caught (ranged_what caught (are_bytes caught.bytes bytes))
