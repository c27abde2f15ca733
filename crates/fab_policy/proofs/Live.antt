-- Whom a forwarder names in what it sends is logged in.
use Rattle.std.proofs.Common.{◌≡◌, ℕ, zero, suc, ◌+◌, ◌*◌, ◌⊎◌, inl, inr, ◌==◌, cond, Bool, true, false, not, ◌||◌, nat_lt, List, [], ◌∷◌, ◌++◌, map, filter, filter_map, find, Option, Some, None, is_some, is_none, Result, Ok, Err, option_map, refl, sym, ap, subst, ◌∙◌, if◌then◌else◌, drop, option_to_list}
use Rattle.std.proofs.lemmas.Bool.{eqb-true}
use Rattle.std.proofs.lemmas.List.Elements.{All-nil, All-cons, All-head, All-tail, All-append, All-map, All-filter, All-weaker}
use Rattle.std.specs.List.{All, cons_option, flat_map}
use Rattle.std.specs.Option.{option_map_or}
use Rattle.fab_base.specs.declared.values.Caught.{Caught}
use Rattle.fab_config.specs.Settings.{Settings, same_bytes}
use Rattle.eth_frames.specs.Ethernet as eth
use Rattle.fc_frames.specs.Frame as fc
use Rattle.fcoe_codec.specs.Fcoe as capsule
use Rattle.fip_codec.specs.Message as fip
use Rattle.fip_codec.specs.declared.message.LoginKind.{LoginKind}
use Rattle.els_messages.specs.Els as els
use Rattle.els_messages.specs.declared.LoginParms.{LoginParms}
use Rattle.ct_messages.specs.Ct as ct
use Rattle.ct_messages.specs.Ct.{Ask, NextOf, PortNameOf, NodeNameOf, TypesOf, FeaturesOf, ByPortName, AddressesOfType, PortNamesOfType, NodeNamesOfType, AddressesOfPortType, SetNode, SetTypes, SetSymbol, SetFeature, SetNodeSymbol, Erase, Unknown}
use Rattle.ct_messages.specs.Server.{Known, Refusal, is_registration, known_at, known_by_name, of_type, next_port, or_first, first_of, named, query_refusal, registration_refusal, refused_if, types_refusal}
use Rattle.ct_messages.specs.Server as server
use Rattle.ct_messages.specs.declared.CtFault.{CtFault}
use Rattle.ct_messages.specs.declared.CtTell.TheVariants as tell
use Rattle.ct_messages.specs.Answer.{has_type}
use Rattle.fab_policy.specs.Journal.{Journal}
use Rattle.fab_policy.specs.Cause.{Cause, plain}
use Rattle.heard_frames.specs.Heard.{What, Bad, Fip, Fcoe, decoded, fc_of, s_id, d_id, ask_of, carried}
use Rattle.fab_policy.specs.Legal.{Legal}
use Rattle.fab_policy.specs.Live.{IsLive, IsEndedBy, asked_about, listed, AnswersAreLive, EndsAreLive, notices_of, LegalNamesTheLive}
use Rattle.fab_base.specs.Counting.{counting}
use Rattle.fab_policy.specs.Logins.{NPort, login, ends, granted_mac}
use Rattle.fab_policy.specs.Outputs.{Notice, notices, told, told_of, told_of_zones, ended_by, granted_by, changed_by, watchers, is_watcher, has_changed, differs}
use Rattle.fab_policy.specs.Queries.{known, visible, known_to, query, refusal, ask_refusal, fault_refusal}
use Rattle.fab_policy.specs.Rules.{joined, rule_for, fcoe_rows, is_class3, holds, is_els_request, is_els_reply, NAME_SERVER, SERVICES}
use Rattle.heard_frames.specs.Rows.{first_row, is_wrong_vlan}
use Rattle.fab_policy.specs.State.{LivePort, Tables, live_port, port_at, tables_of, with_all}
use Rattle.fab_policy.specs.Verdicts.{Judgement, Must, MayGrant, Meets, judged, message_judged, fip_judged, frame_judged, fcoe_judged, service_judged, els_judged, ct_judged, unless_refused, login_judged, login_rows, request_of, is_own_logout, is_function}
use Rattle.fab_policy.specs.declared.event.Event.{Event}
use Rattle.fab_policy.specs.declared.event.Event.TheVariants.{Tick, Frame}
use Rattle.fab_policy.specs.declared.verdict.Verdict.{Verdict}
use Rattle.fab_policy.specs.declared.verdict.Verdict.TheVariants.{Granted, Rejected, Logout, NsLogin, NsLogout, Watching, Registered, Answered, Refused, Noted, Forwarded, Dropped}
use Rattle.fab_policy.specs.declared.verdict.Rule.TheVariants as rule
use Rattle.fab_policy.proofs.Carried.{bodies_are_carried}
use Rattle.fab_policy.proofs.Found.{found_address}
use Rattle.fab_policy.proofs.RuleLemmas.{test_false}
use Rattle.fab_policy.proofs.Steps.{live_addressed}

true_is_false : true ≡ false → ⊥
true_is_false e = cc

-- ---- members of lists

every : {X : Type 0} (P : X → Type 0) → ((x : X) → P x) → (xs : List X) → All P xs
every P h xs k d lt = h _

All-flat_map : {X Y : Type 0} (P : Y → Type 0) (f : X → List Y) (xs : List X) → All (λ x. All P (f x)) xs → All P (flat_map f xs)
All-flat_map P f [] h = All-nil P
All-flat_map P f (x ∷ xs) h = All-append P (f x) (flat_map f xs) (All-head (λ y. All P (f y)) x xs h) (All-flat_map P f xs (All-tail (λ y. All P (f y)) x xs h))

-- those that pass a test
All-passing : {X : Type 0} (P : X → Type 0) (q : X → Bool) (xs : List X) → All P xs → All (λ x. P x × (q x ≡ true)) (filter q xs)
All-passing P q [] h = All-nil (λ x. P x × (q x ≡ true))
All-passing P q (x ∷ xs) h = by (q x) refl (All-passing P q xs (All-tail P x xs h))
  where
    by : (b : Bool) → q x ≡ b → All (λ y. P y × (q y ≡ true)) (filter q xs) → All (λ y. P y × (q y ≡ true)) (cond b (x ∷ filter q xs) (filter q xs))
    by true e rest = All-cons (λ y. P y × (q y ≡ true)) x (filter q xs) (All-head P x xs h, e) rest
    by false e rest = rest

-- the one that is found
find_passes : {X : Type 0} (P : X → Type 0) (q : X → Bool) (xs : List X) (x : X) → All P xs → find q xs ≡ Some x → P x × (q x ≡ true)
find_passes P q [] x h e = cc
find_passes P q (y ∷ ys) x h e = by (q y) refl e (find_passes P q ys x (All-tail P y ys h))
  where
    same : Some y ≡ Some x → y ≡ x
    same s = cc

    by : (b : Bool) → q y ≡ b → cond b (Some y) (find q ys) ≡ Some x → (find q ys ≡ Some x → P x × (q x ≡ true)) → P x × (q x ≡ true)
    by true t s later = subst (λ z. P z × (q z ≡ true)) (same s) (All-head P y ys h, t)
    by false t s later = later s

-- ---- the tables of a journal

-- an N_Port of the tables has the login of its address
HasLogin : Journal → LivePort → Type 0
HasLogin J p = (q : NPort) × (login p.address J ≡ Some q) × (q.enode ≡ p.enode)

login_of_live : (J : Journal) (a : ℕ) (p : LivePort) → live_port a J ≡ Some p → (q : NPort) × (login a J ≡ Some q) × (q.enode ≡ p.enode)
login_of_live J a p e = by_login (login a J) refl e
  where
    parts : (q : NPort) → Some (with_all a J q) ≡ Some p → with_all a J q ≡ p
    parts q s = cc

    by_login : (o : Option NPort) → login a J ≡ o → option_map (with_all a J) o ≡ Some p → (q : NPort) × (login a J ≡ Some q) × (q.enode ≡ p.enode)
    by_login None x s = cc
    by_login (Some q) x s = (q, x, ap (λ (r : LivePort). r.enode) (parts q s))

all_logged_in : (J : Journal) (n k : ℕ) → All (HasLogin J) (filter_map (λ a. live_port a J) (counting k n))
unfolding HasLogin
all_logged_in J zero k = All-nil (HasLogin J)
all_logged_in J (suc n) k = by_first (live_port k J) refl (all_logged_in J n (k + 1))
  where
    rest : List LivePort
    rest = filter_map (λ a. live_port a J) (counting (k + 1) n)

    by_first : (o : Option LivePort) → live_port k J ≡ o → All (HasLogin J) rest → All (HasLogin J) (cons_option o rest)
    by_first None e h = h
    by_first (Some p) e h =
        All-cons (HasLogin J) p rest (subst (λ a. (q : NPort) × (login a J ≡ Some q) × (q.enode ≡ p.enode)) (sym (live_addressed J k p e)) (login_of_live J k p e)) h

in_tables : (c : Settings) (J : Journal) → All (HasLogin J) (tables_of c J).ports
in_tables c J = all_logged_in J c.pool (c.domain * 65536 + 256)

is_live_by : (J : Journal) (p : LivePort) → HasLogin J p → IsLive J p.address
unfolding HasLogin
is_live_by J p h = ap is_some h.1

live_ports : (c : Settings) (J : Journal) → All (λ p. IsLive J p.address) (tables_of c J).ports
live_ports c J = All-weaker (HasLogin J) (λ p. IsLive J p.address) (is_live_by J) (tables_of c J).ports (in_tables c J)

-- who is found by an address is logged in
found_live : (c : Settings) (J : Journal) (a : ℕ) (p : LivePort) → port_at a (tables_of c J).ports ≡ Some p → IsLive J a
found_live c J a p e =
    subst (IsLive J) (found_address a (tables_of c J).ports p e) (find_passes (λ (q : LivePort). IsLive J q.address) (λ q. q.address == a) (tables_of c J).ports p (live_ports c J) e).0

-- ---- state changes

-- everybody who is told is a watcher of the tables after the entry
told_watchers : (P : ℕ → Type 0) (c : Settings) (T U : Tables) → All (λ (p : LivePort). P p.address) U.ports → (b : LivePort) → All (λ n. P n.watcher) (told_of c T U b)
told_watchers P c T U h b =
    All-map (λ (n : Notice). P n.watcher) (λ w. told w b.address) (filter (λ w. joined c T w.name b.name) (watchers U))
    (All-filter (λ w. joined c T w.name b.name) (λ (w : LivePort). P w.address) (watchers U) (All-filter is_watcher (λ (w : LivePort). P w.address) U.ports h))

told_affected : (P : ℕ → Type 0) (c : Settings) (T U : Tables) (b : LivePort) → P b.address → All (λ n. P n.affected) (told_of c T U b)
told_affected P c T U b h =
    All-map (λ (n : Notice). P n.affected) (λ w. told w b.address) (filter (λ w. joined c T w.name b.name) (watchers U)) (every (λ (w : LivePort). P b.address) (λ w. h) _)

zone_watchers : (P : ℕ → Type 0) (c : Settings) (T U : Tables) (e : Event) → All (λ (p : LivePort). P p.address) U.ports → All (λ n. P n.watcher) (told_of_zones c T U e)
zone_watchers P c T U (Frame port index caught verdict) h = All-nil (λ (n : Notice). P n.watcher)
zone_watchers P c T U (Tick m ended) h = by T.clock
  where
    of_one : (t : ℕ) (b : LivePort) → All (λ (n : Notice). P n.watcher) (map (λ w. told w b.address) (filter (λ w. differs c t m w.name b.name) (watchers U)))
    of_one t b = All-map (λ (n : Notice). P n.watcher) (λ w. told w b.address) (filter (λ w. differs c t m w.name b.name) (watchers U))
        (All-filter (λ w. differs c t m w.name b.name) (λ (w : LivePort). P w.address) (watchers U) (All-filter is_watcher (λ (w : LivePort). P w.address) U.ports h))

    by : (o : Option ℕ) → All (λ (n : Notice). P n.watcher) (elim o as (λ _. List Notice) [
      | None ↦ []
      | Some t ↦ flat_map (λ b. map (λ w. told w b.address) (filter (λ w. differs c t m w.name b.name) (watchers U))) U.ports
    ])
    by None = All-nil (λ (n : Notice). P n.watcher)
    by (Some t) = All-flat_map (λ (n : Notice). P n.watcher) (λ b. map (λ w. told w b.address) (filter (λ w. differs c t m w.name b.name) (watchers U))) U.ports (every _ (of_one t) U.ports)

zone_affected : (P : ℕ → Type 0) (c : Settings) (T U : Tables) (e : Event) → All (λ (p : LivePort). P p.address) U.ports → All (λ n. P n.affected) (told_of_zones c T U e)
zone_affected P c T U (Frame port index caught verdict) h = All-nil (λ (n : Notice). P n.affected)
zone_affected P c T U (Tick m ended) h = by T.clock
  where
    of_one : (t : ℕ) (b : LivePort) → P b.address → All (λ (n : Notice). P n.affected) (map (λ w. told w b.address) (filter (λ w. differs c t m w.name b.name) (watchers U)))
    of_one t b p = All-map (λ (n : Notice). P n.affected) (λ w. told w b.address) (filter (λ w. differs c t m w.name b.name) (watchers U)) (every (λ (w : LivePort). P b.address) (λ w. p) _)

    by : (o : Option ℕ) → All (λ (n : Notice). P n.affected) (elim o as (λ _. List Notice) [
      | None ↦ []
      | Some t ↦ flat_map (λ b. map (λ w. told w b.address) (filter (λ w. differs c t m w.name b.name) (watchers U))) U.ports
    ])
    by None = All-nil (λ (n : Notice). P n.affected)
    by (Some t) = All-flat_map (λ (n : Notice). P n.affected) (λ b. map (λ w. told w b.address) (filter (λ w. differs c t m w.name b.name) (watchers U))) U.ports
        (All-weaker (λ (b : LivePort). P b.address) (λ b. All (λ (n : Notice). P n.affected) (map (λ w. told w b.address) (filter (λ w. differs c t m w.name b.name) (watchers U)))) (of_one t) U.ports h)

all_watchers : (c : Settings) (J : Journal) (e : Event) → All (λ n. IsLive (e ∷ J) n.watcher) (notices_of c J e)
unfolding notices
all_watchers c J e =
    let T : Tables = tables_of c J in
    let U : Tables = tables_of c (e ∷ J) in
    let here : List LivePort = ended_by T e ++ granted_by U e ++ changed_by T U e in
    All-append (λ (n : Notice). IsLive (e ∷ J) n.watcher) (flat_map (told_of c T U) here) (told_of_zones c T U e)
    (All-flat_map (λ (n : Notice). IsLive (e ∷ J) n.watcher) (told_of c T U) here (every _ (told_watchers (IsLive (e ∷ J)) c T U (live_ports c (e ∷ J))) here))
    (zone_watchers (IsLive (e ∷ J)) c T U e (live_ports c (e ∷ J)))

-- ---- whom a state change is about

abbrev IsTold : Journal → Event → ℕ → Type 0
IsTold J e a = IsLive (e ∷ J) a ⊎ IsEndedBy e J a

all_ended : (c : Settings) (J : Journal) (e : Event) → All (λ p. IsTold J e p.address) (ended_by (tables_of c J) e)
unfolding HasLogin
all_ended c J e =
    All-weaker (λ (p : LivePort). HasLogin J p × (ends p.address p.enode e ≡ true)) (λ p. IsTold J e p.address) ended (ended_by (tables_of c J) e)
    (All-passing (HasLogin J) (λ p. ends p.address p.enode e) (tables_of c J).ports (in_tables c J))
  where
    ended : (p : LivePort) → HasLogin J p × (ends p.address p.enode e ≡ true) → IsTold J e p.address
    ended p h = inr (h.0.0, h.0.1, subst (λ x. ends p.address x e ≡ true) (sym h.0.2) h.1)

of_option : {X : Type 0} (P : X → Type 0) (o : Option X) → ((x : X) → o ≡ Some x → P x) → All P (option_to_list o)
of_option P None h = All-nil P
of_option P (Some x) h = All-cons P x [] (h x refl) (All-nil P)

all_granted : (c : Settings) (J : Journal) (e : Event) → All (λ p. IsTold J e p.address) (granted_by (tables_of c (e ∷ J)) e)
all_granted c J (Frame port index caught (Granted a)) =
    of_option (λ (p : LivePort). IsTold J (Frame port index caught (Granted a)) p.address) (port_at a (tables_of c (Frame port index caught (Granted a) ∷ J)).ports)
    (λ p is. inl (subst (IsLive (Frame port index caught (Granted a) ∷ J)) (sym (found_address a _ p is)) (found_live c (Frame port index caught (Granted a) ∷ J) a p is)))
all_granted c J e = All-nil (λ (p : LivePort). IsTold J e p.address)

-- whose values change is found before the entry and after it
changed_live : (c : Settings) (J : Journal) (e : Event) (p : LivePort) → has_changed p (port_at p.address (tables_of c (e ∷ J)).ports) ≡ true → IsTold J e p.address
changed_live c J e p h = by (port_at p.address (tables_of c (e ∷ J)).ports) refl h
  where
    by : (o : Option LivePort) → port_at p.address (tables_of c (e ∷ J)).ports ≡ o → has_changed p o ≡ true → IsTold J e p.address
    by None x t = cc
    by (Some q) x t = inl (found_live c (e ∷ J) p.address q x)

all_changed : (c : Settings) (J : Journal) (e : Event) → All (λ p. IsTold J e p.address) (changed_by (tables_of c J) (tables_of c (e ∷ J)) e)
all_changed c J (Frame port index caught Registered) =
    let e : Event = Frame port index caught Registered in
    let changes : LivePort → Bool = λ p. has_changed p (port_at p.address (tables_of c (e ∷ J)).ports) in
    All-weaker (λ (p : LivePort). Unit {0} × (changes p ≡ true)) (λ p. IsTold J e p.address) (λ p h. changed_live c J e p h.1) (changed_by (tables_of c J) (tables_of c (e ∷ J)) e)
    (All-passing (λ (p : LivePort). Unit {0}) changes (option_to_list (port_at (s_id caught) (tables_of c J).ports)) (every (λ (p : LivePort). Unit {0}) (λ p. tt) _))
all_changed c J e = All-nil (λ (p : LivePort). IsTold J e p.address)

all_affected : (c : Settings) (J : Journal) (e : Event) → All (λ n. IsTold J e n.affected) (notices_of c J e)
unfolding notices
all_affected c J e =
    let T : Tables = tables_of c J in
    let U : Tables = tables_of c (e ∷ J) in
    let here : List LivePort = ended_by T e ++ granted_by U e ++ changed_by T U e in
    let P : LivePort → Type 0 = λ p. IsTold J e p.address in
    All-append (λ (n : Notice). IsTold J e n.affected) (flat_map (told_of c T U) here) (told_of_zones c T U e)
    (All-flat_map (λ (n : Notice). IsTold J e n.affected) (told_of c T U) here
    (All-weaker P (λ p. All (λ (n : Notice). IsTold J e n.affected) (told_of c T U p)) (told_affected (IsTold J e) c T U) here
    (All-append P (ended_by T e ++ granted_by U e) (changed_by T U e) (All-append P (ended_by T e) (granted_by U e) (all_ended c J e) (all_granted c J e)) (all_changed c J e))))
    (zone_affected (IsTold J e) c T U e (All-weaker (λ (p : LivePort). IsLive (e ∷ J) p.address) P (λ p h. inl h) U.ports (live_ports c (e ∷ J))))

-- ---- which judgements answer or forward

abbrev is_answer : Judgement → Bool
is_answer (Must Answered) = true
is_answer _ = false

abbrev is_forward : Judgement → Bool
is_forward (Must (Forwarded q)) = true
is_forward _ = false

abbrev is_named : Judgement → Bool
is_named (Must Answered) = true
is_named (Must (Forwarded q)) = true
is_named _ = false

unless_silent : (rows : List (Bool × Refusal)) (j : Judgement) → is_named j ≡ false → is_named (unless_refused rows j) ≡ false
unless_silent rows j h = elim (first_row rows) as (λ o. is_named (elim o as (λ _. Judgement) [ Some r ↦ Must (Rejected r.0 r.1) | None ↦ j ]) ≡ false) [ Some r ↦ refl | None ↦ h ]

login_silent : (c : Settings) (T : Tables) (port : ℕ) (caught : Caught) (fp : Bool) (kind : LoginKind) (p : LoginParms) → is_named (login_judged c T port caught fp kind p) ≡ false
login_silent c T port caught fp kind p = unless_silent (login_rows c T port caught fp (request_of kind port caught p) p) (MayGrant (request_of kind port caught p)) refl

frame_silent : (c : Settings) (T : Tables) (port : ℕ) (caught : Caught) (fp : Bool) (kind : LoginKind) (f : fc.Frame) (mac : List ℕ) → is_named (frame_judged c T port caught fp kind f mac) ≡ false
frame_silent c T port caught fp kind f mac = elim (els.payload_of f.payload) as (λ x. is_named (elim x as (λ _. Judgement) [
  | els.Flogi p ↦ login_judged c T port caught fp kind p
  | els.Fdisc p ↦ login_judged c T port caught fp kind p
  | els.Logo address name ↦
      unless_refused ((not (holds (is_own_logout c T port caught mac address name) (port_at f.head.s_id T.ports)), (3, 0)) ∷ []) (Must (Logout f.head.s_id))
  | _ ↦ Must (Dropped (plain rule.ElsKind))
]) ≡ false) [
  | els.Flogi p ↦ login_silent c T port caught fp kind p
  | els.Fdisc p ↦ login_silent c T port caught fp kind p
  | els.Logo address name ↦ unless_silent ((not (holds (is_own_logout c T port caught mac address name) (port_at f.head.s_id T.ports)), (3, 0)) ∷ []) (Must (Logout f.head.s_id)) refl
  | _ ↦ refl
]

fip_silent : (c : Settings) (T : Tables) (port : ℕ) (caught : Caught) (m : fip.Fip) → is_named (fip_judged c T port caught m) ≡ false
fip_silent c T port caught (fip.VlanAsk _ _) = refl
fip_silent c T port caught (fip.Solicit _ _ _ _ _) = refl
fip_silent c T port caught (fip.Keep _ None) = refl
fip_silent c T port caught (fip.Keep _ (Some vx)) = refl
fip_silent c T port caught (fip.Login kind fp l mac) = frame_silent c T port caught fp kind (fc_of l) mac
fip_silent c T port caught _ = refl

els_silent : (c : Settings) (T : Tables) (p : LivePort) (f : fc.Frame) → is_named (els_judged c T p f) ≡ false
els_silent c T p f = by (f.head.d_id == NAME_SERVER) (els.payload_of f.payload)
  where
    by : (to_names : Bool) (x : els.Els) → is_named (elim x as (λ _. Judgement) [
      | els.Plogi parms ↦ (if to_names
          then unless_refused ((not (els.offers_class3 parms), (0x0b, 0)) ∷ (not (parms.port_name == p.name) || nat_lt parms.size 256, (3, 0)) ∷ []) (Must NsLogin)
          else Must (Rejected 0x0b 0x2c))
      | els.Logo address name ↦ (if to_names then Must NsLogout else Must (Rejected 0x0b 0x2c))
      | els.Scr function ↦ (if to_names then Must (Rejected 0x0b 0x2c) else unless_refused ((not (is_function function), (3, 0)) ∷ []) (Must (Watching function)))
      | _ ↦ Must (Rejected 0x0b 0x2c)
    ]) ≡ false
    by true (els.Plogi parms) = unless_silent ((not (els.offers_class3 parms), (0x0b, 0)) ∷ (not (parms.port_name == p.name) || nat_lt parms.size 256, (3, 0)) ∷ []) (Must NsLogin) refl
    by false (els.Plogi parms) = refl
    by true (els.Logo address name) = refl
    by false (els.Logo address name) = refl
    by true (els.Scr function) = refl
    by false (els.Scr function) = unless_silent ((not (is_function function), (3, 0)) ∷ []) (Must (Watching function)) refl
    by to_names _ = refl

-- ---- a frame that is answered or goes on is one of FCoE that no rule drops

record IsRead (c : Settings) (T : Tables) (port : ℕ) (caught : Caught) : Type 0 where
  pub frame : eth.Eth
  pub body : capsule.Fcoe
  pub decodes : decoded caught ≡ Fcoe frame (Ok body)
  pub passes : rule_for c T port caught (Fcoe frame (Ok body)) ≡ None
  pub judged_as : judged c T port caught ≡ fcoe_judged c T body.frame

abbrev judged_so : Settings → Tables → ℕ → Caught → Option Cause → What → Judgement
judged_so c T port caught o w = elim o as (λ _. Judgement) [ Some cause ↦ Must (Dropped cause) | None ↦ message_judged c T port caught w ]

is_read : (c : Settings) (T : Tables) (port : ℕ) (caught : Caught) → is_named (judged c T port caught) ≡ true → IsRead c T port caught
unfolding judged
is_read c T port caught h = by_what (decoded caught) refl (rule_for c T port caught (decoded caught)) refl h
  where
    by_what : (w : What) → decoded caught ≡ w → (o : Option Cause) → rule_for c T port caught (decoded caught) ≡ o → is_named (judged_so c T port caught o (decoded caught)) ≡ true → IsRead c T port caught
    by_what w x (Some cause) y t = absurd cc
    by_what (Bad fault) x None y t = absurd (true_is_false (sym t ∙ ap (λ v. is_named (judged_so c T port caught None v)) x))
    by_what (Fip f m) x None y t = absurd (true_is_false (sym t ∙ ap (λ v. is_named (judged_so c T port caught None v)) x ∙ fip_silent c T port caught m))
    by_what (Fcoe f (Err fault)) x None y t = absurd (true_is_false (sym t ∙ ap (λ v. is_named (judged_so c T port caught None v)) x))
    by_what (Fcoe f (Ok b)) x None y t = record {
      frame = f;
      body = b;
      decodes = x;
      passes = ap (λ v. rule_for c T port caught v) (sym x) ∙ y;
      judged_as = ap (λ o. judged_so c T port caught o (decoded caught)) y ∙ ap (λ v. judged_so c T port caught None v) x;
    }

-- ---- a query that is answered

record IsAnswered (c : Settings) (T : Tables) (f : fc.Frame) : Type 0 where
  pub asker : LivePort
  pub found : port_at f.head.s_id T.ports ≡ Some asker
  pub ask : Ask
  pub reads : ct.decoded f.payload ≡ Ok ask
  pub query : is_registration ask ≡ false
  pub free : query_refusal (known_to c T asker) ask ≡ None

abbrev refused_so : Settings → Tables → LivePort → Bool → Result Ask CtFault → Option Refusal
refused_so c T p b r = if b then Some (9, 0x10) else elim r as (λ _. Option Refusal) [ Err e ↦ Some (fault_refusal e) | Ok ask ↦ ask_refusal c T p ask ]

abbrev answer_to : Option Refusal → Result Ask CtFault → Judgement
answer_to o r = elim o as (λ _. Judgement) [
  | Some why ↦ Must (Refused why.0 why.1)
  | None ↦ elim r as (λ _. Judgement) [ Ok ask ↦ Must (if is_registration ask then Registered else Answered) | Err e ↦ Must (Refused 4 0) ]
]

ct_answered : (c : Settings) (T : Tables) (p : LivePort) (l : List ℕ) → ct_judged c T p l ≡ Must Answered →
    (ask : Ask) × (ct.decoded l ≡ Ok ask) × (is_registration ask ≡ false) × (query_refusal (known_to c T p) ask ≡ None)
ct_answered c T p l h = by (is_none p.server) (ct.decoded l) refl h
  where
    by_kind : (ask : Ask) → ct.decoded l ≡ Ok ask → (r : Bool) → is_registration ask ≡ r → (o : Option Refusal) →
        (if r then registration_refusal p.address p.values.node_name ask else query_refusal (known_to c T p) ask) ≡ o →
        (elim o as (λ _. Judgement) [ Some why ↦ Must (Refused why.0 why.1) | None ↦ Must (if r then Registered else Answered) ]) ≡ Must Answered →
        (ask : Ask) × (ct.decoded l ≡ Ok ask) × (is_registration ask ≡ false) × (query_refusal (known_to c T p) ask ≡ None)
    by_kind ask x r k (Some why) y t = absurd cc
    by_kind ask x true k None y t = absurd cc
    by_kind ask x false k None y t = (ask, x, k, y)

    by : (b : Bool) (r : Result Ask CtFault) → ct.decoded l ≡ r → answer_to (refused_so c T p b r) r ≡ Must Answered →
        (ask : Ask) × (ct.decoded l ≡ Ok ask) × (is_registration ask ≡ false) × (query_refusal (known_to c T p) ask ≡ None)
    by true r x t = absurd cc
    by false (Err e) x t = absurd cc
    by false (Ok ask) x t = by_kind ask x (is_registration ask) refl (ask_refusal c T p ask) refl t

answered_by : (c : Settings) (T : Tables) (f : fc.Frame) → fcoe_judged c T f ≡ Must Answered → IsAnswered c T f
answered_by c T f h = by_place (nat_lt f.head.d_id SERVICES) h
  where
    by_kind : (p : LivePort) → port_at f.head.s_id T.ports ≡ Some p → (reply request : Bool) →
        elim reply as (λ _. Judgement) [ true ↦ Must Noted | false ↦ elim request as (λ _. Judgement) [ true ↦ els_judged c T p f | false ↦ ct_judged c T p f.payload ] ] ≡ Must Answered → IsAnswered c T f
    by_kind p x true request t = absurd cc
    by_kind p x false true t = absurd (true_is_false (ap is_named (sym t) ∙ els_silent c T p f))
    by_kind p x false false t =
        let there = ct_answered c T p f.payload t in
        record { asker = p; found = x; ask = there.0; reads = there.1; query = there.2; free = there.3 }

    by_source : (o : Option LivePort) → port_at f.head.s_id T.ports ≡ o → elim o as (λ _. Judgement) [
      | None ↦ Must (Dropped (plain rule.SourceLogin))
      | Some p ↦ elim (is_els_reply f) as (λ _. Judgement) [ true ↦ Must Noted | false ↦ elim (is_els_request f) as (λ _. Judgement) [ true ↦ els_judged c T p f | false ↦ ct_judged c T p f.payload ] ]
    ] ≡ Must Answered → IsAnswered c T f
    by_source None x t = absurd cc
    by_source (Some p) x t = by_kind p x (is_els_reply f) (is_els_request f) t

    by_dest : (o : Option LivePort) → elim o as (λ _. Judgement) [ Some q ↦ Must (Forwarded q.enode.port) | None ↦ Must (Dropped (plain rule.DestLogin)) ] ≡ Must Answered → IsAnswered c T f
    by_dest (Some q) t = absurd cc
    by_dest None t = absurd cc

    by_place : (b : Bool) → elim b as (λ _. Judgement) [
      | true ↦ elim (port_at f.head.d_id T.ports) as (λ _. Judgement) [ Some q ↦ Must (Forwarded q.enode.port) | None ↦ Must (Dropped (plain rule.DestLogin)) ]
      | false ↦ service_judged c T f
    ] ≡ Must Answered → IsAnswered c T f
    by_place true t = by_dest (port_at f.head.d_id T.ports) t
    by_place false t = by_source (port_at f.head.s_id T.ports) refl t

-- ---- whom an answer is about

module _ (J : Journal) where
  abbrev IsKnown : Known → Type 0
  IsKnown k = IsLive J k.address

  -- the N_Port of an address that is known
  at_known : (a : ℕ) (ports : List Known) → All IsKnown ports → is_none (known_at a ports) ≡ false → IsLive J a
  at_known a ports h t = by (known_at a ports) refl t
    where
      by : (o : Option Known) → known_at a ports ≡ o → is_none o ≡ false → IsLive J a
      by None x n = cc
      by (Some k) x n = let there = find_passes IsKnown (λ (p : Known). p.address == a) ports k h x in subst (IsLive J) (eqb-true k.address a there.1) there.0

  not_refused : (b : Bool) (reason explanation : ℕ) → refused_if b reason explanation ≡ None → b ≡ false
  not_refused true reason explanation e = cc
  not_refused false reason explanation e = refl

  has_types : (o : Option Known) → types_refusal o ≡ None → is_none o ≡ false
  has_types None e = cc
  has_types (Some k) e = refl

  one : (a : ℕ) → IsLive J a → All (IsLive J) (a ∷ [])
  one a h = All-cons (IsLive J) a [] h (All-nil (IsLive J))

  by_name : (name : ℕ) (ports : List Known) → All IsKnown ports → is_none (known_by_name name ports) ≡ false → IsLive J (option_map_or (λ (p : Known). p.address) (known_by_name name ports) 0)
  by_name name ports h t = by (known_by_name name ports) refl t
    where
      by : (o : Option Known) → known_by_name name ports ≡ o → is_none o ≡ false → IsLive J (option_map_or (λ (p : Known). p.address) o 0)
      by None x n = cc
      by (Some k) x n = (find_passes IsKnown (λ (p : Known). p.name == name) ports k h x).0

  next_live : (a : ℕ) (ports : List Known) → All IsKnown ports → All (IsLive J) (listed (option_map_or (λ (p : Known). tell.Next (server.next_answer p)) (next_port a ports) tell.Done))
  next_live a ports h = by (find (λ (p : Known). nat_lt a p.address) ports) refl ports h
    where
      by : (o : Option Known) → find (λ (p : Known). nat_lt a p.address) ports ≡ o → (l : List Known) → All IsKnown l →
          All (IsLive J) (listed (option_map_or (λ (p : Known). tell.Next (server.next_answer p)) (or_first o l) tell.Done))
      by (Some k) x l g = one k.address (find_passes IsKnown (λ (p : Known). nat_lt a p.address) ports k h x).0
      by None x [] g = All-nil (IsLive J)
      by None x (k ∷ l) g = one k.address (All-head IsKnown k l g)

  of_types : (t : ℕ) (ports : List Known) → All IsKnown ports → All IsKnown (of_type t ports)
  of_types t ports h = All-filter (λ (p : Known). has_type p.values.types t) IsKnown ports h

  addresses_live : (ports : List Known) → All IsKnown ports → All (IsLive J) (server.addresses ports)
  addresses_live ports h = All-map (IsLive J) (λ (p : Known). p.address) ports h

  names_live : (name : Known → ℕ) (ports : List Known) → All IsKnown ports → All (IsLive J) (listed (tell.Names (named name ports)))
  names_live name [] h = All-nil (IsLive J)
  names_live name (k ∷ ports) h = All-cons (IsLive J) k.address _ (All-head IsKnown k ports h) (names_live name ports (All-tail IsKnown k ports h))

  answer_live : (ports : List Known) (ask : Ask) → All IsKnown ports → is_registration ask ≡ false → query_refusal ports ask ≡ None →
      All (IsLive J) (asked_about ask ++ listed (server.query ports ask))
  unfolding server.query
  answer_live ports (NextOf a) h r e = next_live a ports h
  answer_live ports (PortNameOf a) h r e = one a (at_known a ports h (not_refused (is_none (known_at a ports)) 9 1 e))
  answer_live ports (NodeNameOf a) h r e = one a (at_known a ports h (not_refused (is_none (known_at a ports)) 9 1 e))
  answer_live ports (TypesOf a) h r e = one a (at_known a ports h (has_types (known_at a ports) e))
  answer_live ports (FeaturesOf a) h r e = one a (at_known a ports h (not_refused (is_none (known_at a ports)) 9 1 e))
  answer_live ports (ByPortName name) h r e = one _ (by_name name ports h (not_refused (is_none (known_by_name name ports)) 9 2 e))
  answer_live ports (AddressesOfType t) h r e = addresses_live (of_type t ports) (of_types t ports h)
  answer_live ports (PortNamesOfType t) h r e = names_live (λ p. p.name) (of_type t ports) (of_types t ports h)
  answer_live ports (NodeNamesOfType t) h r e = names_live (λ p. p.values.node_name) (of_type t ports) (of_types t ports h)
  answer_live ports (AddressesOfPortType t) h r e = addresses_live ports h
  answer_live ports ask h r e = All-nil (IsLive J)

known_live : (c : Settings) (J : Journal) (b : LivePort) → All (IsKnown J) (known_to c (tables_of c J) b)
known_live c J b =
    let T : Tables = tables_of c J in
    All-map (IsKnown J) (known c) (visible c T b) (All-filter (λ p. p.address == b.address || joined c T p.name b.name) (λ (p : LivePort). IsLive J p.address) T.ports (live_ports c J))

-- ---- each kind of verdict

meets_must : (c : Settings) (T : Tables) (j : Judgement) (v : Verdict) → is_named (Must v) ≡ true → Meets c T j v → j ≡ Must v
meets_must c T (Must w) v n h = ap Must (sym h)
meets_must c T (MayGrant r) Answered n h = absurd h
meets_must c T (MayGrant r) (Forwarded q) n h = absurd h
meets_must c T (MayGrant r) v n h = absurd cc

abbrev ask_in : Result Ask CtFault → Ask
ask_in r = elim r as (λ _. Ask) [ Ok ask ↦ ask | Err fault ↦ Unknown 0 ]

answers_live : (c : Settings) (J : Journal) (port index : ℕ) (caught : Caught) → Legal c (Frame port index caught Answered ∷ J) → AnswersAreLive c J (Frame port index caught Answered)
answers_live c J port index caught l =
    let T : Tables = tables_of c J in
    let must : judged c T port caught ≡ Must Answered = meets_must c T (judged c T port caught) Answered refl l.1.1 in
    let read : IsRead c T port caught = is_read c T port caught (ap is_named must) in
    let there : IsAnswered c T read.body.frame = answered_by c T read.body.frame (sym read.judged_as ∙ must) in
    let carries : carried caught ≡ read.body.frame = (bodies_are_carried caught read.frame read.body read.decodes).0 in
    let found : port_at (s_id caught) T.ports ≡ Some there.asker = ap (λ f. port_at f.head.s_id T.ports) carries ∙ there.found in
    let asks : ask_of caught ≡ there.ask = ap (λ f. ask_in (ct.decoded f.payload)) carries ∙ ap ask_in there.reads in (
      there.asker,
      found,
      found_live c J (s_id caught) there.asker found,
      subst (λ ask. All (IsLive J) (asked_about ask ++ listed (query c T there.asker ask))) (sym asks)
          (answer_live J (known_to c T there.asker) there.ask (known_live c J there.asker) there.query there.free),
    )

there_by : {X : Type 0} (o : Option X) → not (is_some o) ≡ false → (x : X) × (o ≡ Some x)
there_by None e = absurd cc
there_by (Some x) e = (x, refl)

-- where no row drops a frame, the one of its source doesn't
source_there : (c : Settings) (T : Tables) (port : ℕ) (caught : Caught) (f : eth.Eth) (x : capsule.Fcoe) → rule_for c T port caught (Fcoe f (Ok x)) ≡ None →
    (p : LivePort) × (port_at x.frame.head.s_id T.ports ≡ Some p)
unfolding rule_for
source_there c T port caught f x e =
    there_by (port_at x.frame.head.s_id T.ports) (test_false rule.SourceLogin ((is_wrong_vlan c.vlan f false, plain rule.Vlan) ∷ fcoe_rows c T port f x) e)

-- ---- a frame that goes on

ct_stays : (c : Settings) (T : Tables) (p : LivePort) (l : List ℕ) → is_forward (ct_judged c T p l) ≡ false
ct_stays c T p l = by (refusal c T p (ct.decoded l)) (ct.decoded l)
  where
    by_kind : (r : Bool) → is_forward (Must (if r then Registered else Answered)) ≡ false
    by_kind true = refl
    by_kind false = refl

    by : (o : Option Refusal) (r : Result Ask CtFault) → is_forward (elim o as (λ _. Judgement) [
      | Some why ↦ Must (Refused why.0 why.1)
      | None ↦ elim r as (λ _. Judgement) [ Ok ask ↦ Must (if is_registration ask then Registered else Answered) | Err e ↦ Must (Refused 4 0) ]
    ]) ≡ false
    by (Some why) r = refl
    by None (Ok ask) = by_kind (is_registration ask)
    by None (Err e) = refl

forward_is_named : (j : Judgement) (q : ℕ) → j ≡ Must (Forwarded q) → is_named j ≡ true
forward_is_named j q e = ap is_named e

dest_there : (c : Settings) (T : Tables) (f : fc.Frame) (q : ℕ) → fcoe_judged c T f ≡ Must (Forwarded q) → (p : LivePort) × (port_at f.head.d_id T.ports ≡ Some p)
dest_there c T f q h = by_place (nat_lt f.head.d_id SERVICES) h
  where
    by_kind : (p : LivePort) (reply request : Bool) →
        elim reply as (λ _. Judgement) [ true ↦ Must Noted | false ↦ elim request as (λ _. Judgement) [ true ↦ els_judged c T p f | false ↦ ct_judged c T p f.payload ] ] ≡ Must (Forwarded q) → ⊥
    by_kind p true request t = cc
    by_kind p false true t = true_is_false (ap is_named (sym t) ∙ els_silent c T p f)
    by_kind p false false t = true_is_false (ap is_forward (sym t) ∙ ct_stays c T p f.payload)

    by_source : (o : Option LivePort) → elim o as (λ _. Judgement) [
      | None ↦ Must (Dropped (plain rule.SourceLogin))
      | Some p ↦ elim (is_els_reply f) as (λ _. Judgement) [ true ↦ Must Noted | false ↦ elim (is_els_request f) as (λ _. Judgement) [ true ↦ els_judged c T p f | false ↦ ct_judged c T p f.payload ] ]
    ] ≡ Must (Forwarded q) → ⊥
    by_source None t = cc
    by_source (Some p) t = by_kind p (is_els_reply f) (is_els_request f) t

    by_dest : (o : Option LivePort) → port_at f.head.d_id T.ports ≡ o →
        elim o as (λ _. Judgement) [ Some p ↦ Must (Forwarded p.enode.port) | None ↦ Must (Dropped (plain rule.DestLogin)) ] ≡ Must (Forwarded q) → (p : LivePort) × (port_at f.head.d_id T.ports ≡ Some p)
    by_dest (Some p) x t = (p, x)
    by_dest None x t = absurd cc

    by_place : (b : Bool) → elim b as (λ _. Judgement) [
      | true ↦ elim (port_at f.head.d_id T.ports) as (λ _. Judgement) [ Some p ↦ Must (Forwarded p.enode.port) | None ↦ Must (Dropped (plain rule.DestLogin)) ]
      | false ↦ service_judged c T f
    ] ≡ Must (Forwarded q) → (p : LivePort) × (port_at f.head.d_id T.ports ≡ Some p)
    by_place true t = by_dest (port_at f.head.d_id T.ports) refl t
    by_place false t = absurd (by_source (port_at f.head.s_id T.ports) t)

ends_live : (c : Settings) (J : Journal) (port index q : ℕ) (caught : Caught) → Legal c (Frame port index caught (Forwarded q) ∷ J) → EndsAreLive J (Frame port index caught (Forwarded q))
ends_live c J port index q caught l =
    let T : Tables = tables_of c J in
    let must : judged c T port caught ≡ Must (Forwarded q) = meets_must c T (judged c T port caught) (Forwarded q) refl l.1.1 in
    let read : IsRead c T port caught = is_read c T port caught (ap is_named must) in
    let carries : carried caught ≡ read.body.frame = (bodies_are_carried caught read.frame read.body read.decodes).0 in
    let from = source_there c T port caught read.frame read.body read.passes in
    let to = dest_there c T read.body.frame q (sym read.judged_as ∙ must) in
    (found_live c J (s_id caught) from.0 (ap (λ f. port_at f.head.s_id T.ports) carries ∙ from.1), found_live c J (d_id caught) to.0 (ap (λ f. port_at f.head.d_id T.ports) carries ∙ to.1))

all_answers : (c : Settings) (J : Journal) (e : Event) → Legal c (e ∷ J) → AnswersAreLive c J e
all_answers c J (Frame port index caught Answered) l = answers_live c J port index caught l
all_answers c J e l = tt

all_forwards : (c : Settings) (J : Journal) (e : Event) → Legal c (e ∷ J) → EndsAreLive J e
all_forwards c J (Frame port index caught (Forwarded q)) l = ends_live c J port index q caught l
all_forwards c J e l = tt

pub legal_names_the_live : LegalNamesTheLive
legal_names_the_live c J e l = record { answers = all_answers c J e l; forwards = all_forwards c J e l; watchers = all_watchers c J e; affected = all_affected c J e }
