-- A judgement by the decoders against the same by the layout and the grammar.
use Rattle.std.proofs.Common.{◌≡◌, ℕ, zero, suc, lit<, ◌⊎◌, inl, inr, ⊎_elim, nat_lt, ltb, ◌==◌, ◌&&◌, ◌||◌, not, if◌then◌else◌, Bool, true, false, List, [], ◌∷◌, length, drop, Option, Some, None, Result, Ok, Err, refl, sym, ap, subst, ◌∙◌, arith}
use Rattle.std.specs.List.{AllPass}
use Rattle.std.proofs.lemmas.Slice.Eq.{bytes_eq-Decides}
use Rattle.std.proofs.lemmas.Bool.{or_cases, ltb-true, ltb-false, eqb-true, eqb-false, eq-eqb}
use Rattle.fab_base.specs.Layout.{number}
use Rattle.fab_base.specs.declared.values.Caught.{Caught}
use Rattle.fab_base.proofs.LayoutLemmas.{AreBytes}
use Rattle.fab_config.specs.Settings.{Settings, same_bytes}
use Rattle.eth_frames.specs.Ethernet as eth
use Rattle.eth_frames.specs.Ethernet.{Eth, IsEth, has_tag, is_short, tagged_frame, plain_frame, vlan_of_tag}
use Rattle.eth_frames.specs.declared.EthFault.{EthFault}
use Rattle.eth_frames.specs.declared.EthFault.TheVariants.{Short}
use Rattle.eth_frames.proofs.EthernetLemmas.{decoded-is, layout-plain, layout-tagged}
use Rattle.fc_frames.specs.Frame as fc
use Rattle.fcoe_codec.specs.Fcoe as capsule
use Rattle.els_messages.specs.Els as els
use Rattle.els_messages.specs.declared.LoginParms.{LoginParms}
use Rattle.fip_codec.specs.Message as fip
use Rattle.fip_codec.specs.Message.{Solicit, Advertise, Login, LoginReply, Keep, Clear, VlanAsk, VlanTell}
use Rattle.fip_codec.specs.Reading as reading
use Rattle.fip_codec.specs.declared.fault.FipFault.{FipFault}
use Rattle.fip_codec.specs.declared.message.LoginKind.{LoginKind}
use Rattle.fip_codec.proofs.Grammar.{IsFip-from_decoded}
use Rattle.fip_codec.proofs.Unique.{decoded-from_IsFip}
use Rattle.fab_policy.specs.Cause.{Cause, plain, cause_of_unreadable}
use Rattle.fab_policy.specs.Free.{Request}
use Rattle.heard_frames.specs.Heard.{What, Bad, Fip, Fcoe, FIP, FCOE, decoded, fc_of}
use Rattle.heard_frames.specs.declared.unreadable.Unreadable.TheVariants as unreadable
use Rattle.fab_policy.specs.Laws.{AsksVlans, Solicits}
use Rattle.heard_frames.specs.Rows.{first_row, is_wrong_vlan, ALL_FCFS}
use Rattle.fab_policy.specs.Rules.{rule_for, fip_rows, holds}
use Rattle.fab_policy.specs.State.{Tables, port_at}
use Rattle.fab_policy.specs.Verdicts.{Judgement, Must, MayGrant, Meets, IsRight, judged, message_judged, frame_judged, login_judged, login_rows, request_of, unless_refused, is_own_logout, fcoe_judged}
use Rattle.fab_policy.specs.declared.verdict.Verdict.{Verdict}
use Rattle.fab_policy.specs.declared.verdict.Verdict.TheVariants.{Vlans, Advertised, Logout, AliveNode, AlivePort, Dropped}
use Rattle.fab_policy.specs.declared.verdict.Rule.{Rule}
use Rattle.fab_policy.specs.declared.verdict.Rule.TheVariants as rule
use Rattle.fab_policy.proofs.RuleLemmas.{test_of, test_false}
use Rattle.fab_policy.proofs.FcoeJudged.{IsOfFcoe, refused_or, body_of_fcoe}

-- ---- bytes

are_bytes : (l : List ℕ) → AllPass (λ b. nat_lt b 256) l → AreBytes l
are_bytes [] h i = lit< tt
are_bytes (x ∷ l) h zero = ltb-true x 256 (h 0 0 (omega arith))
are_bytes (x ∷ l) h (suc i) = are_bytes l (λ k d lt. h (suc k) d (omega arith)) i

-- ---- one test or another

or_left : (a b : Bool) → a ≡ true → (a || b) ≡ true
or_left true b e = refl
or_left false b e = absurd (cc)

or_right : (a b : Bool) → b ≡ true → (a || b) ≡ true
or_right true b e = refl
or_right false b e = e

holds_from : (b : Bool) → not b ≡ false → b ≡ true
holds_from true e = refl
holds_from false e = absurd (cc)

-- ---- Ethernet

read_ok : (short : Bool) (x f : Eth) → (if short then Err Short else Ok x) ≡ Ok f → (short ≡ false) × (x ≡ f)
read_ok true x f e = absurd (cc)
read_ok false x f e = (refl, cc)

-- what stands in bytes with a tag, and without
stands_by : (l : List ℕ) (tag : Bool) → AreBytes l → has_tag l ≡ tag → ltb (length l) (if tag then 18 else 14) ≡ false → IsEth (if tag then tagged_frame l else plain_frame l) l
stands_by l true bytes is long = layout-tagged l _ _ _ _ _ bytes (ltb-false (length l) 18 long) refl refl (eqb-true (number l 12 2) 0x8100 is) refl refl refl
stands_by l false bytes is long = layout-plain l _ _ _ _ bytes (ltb-false (length l) 14 long) refl refl refl (eqb-false (number l 12 2) 0x8100 is) refl

stands : (l : List ℕ) (f : Eth) → AreBytes l → eth.decoded l ≡ Ok f → IsEth f l
unfolding eth.decoded
stands l f bytes e =
    let parts = read_ok (is_short l) (if has_tag l then tagged_frame l else plain_frame l) f e in
    subst (λ g. IsEth g l) parts.1 (stands_by l (has_tag l) bytes refl parts.0)

-- ---- a frame of FIP

abbrev body_of : Eth → Result fip.Fip FipFault → What
body_of f read = elim read as (λ _. What) [ Err fault ↦ Bad (unreadable.Fip fault) | Ok message ↦ Fip f message ]

abbrev frame_of : Eth → Bool → Bool → What
frame_of f is_fip is_fcoe =
    elim is_fip as (λ _. What) [
      | true ↦ body_of f (reading.decoded f.body)
      | false ↦ elim is_fcoe as (λ _. What) [ true ↦ Fcoe f (capsule.decoded f.body) | false ↦ Bad unreadable.Ethertype ]
    ]

abbrev read_of : Bool → Result Eth EthFault → What
read_of whole read =
    elim whole as (λ _. What) [
      | false ↦ Bad unreadable.Truncated
      | true ↦ elim read as (λ _. What) [ Err fault ↦ Bad unreadable.EthShort | Ok f ↦ frame_of f (f.kind == FIP) (f.kind == FCOE) ]
    ]

-- a message in a frame that was read
record HasMessage (whole : Bool) (read : Result Eth EthFault) (f : Eth) (m : fip.Fip) : Type 0 where
  is_whole : whole ≡ true
  is_read : read ≡ Ok f
  kind : (f.kind == FIP) ≡ true
  message : reading.decoded f.body ≡ Ok m

same_fip : {f g : Eth} {m n : fip.Fip} → Fip f m ≡ Fip g n → (f ≡ g) × (m ≡ n)
same_fip e = (cc, cc)

in_body : (g f : Eth) (m : fip.Fip) (read : Result fip.Fip FipFault) → body_of g read ≡ Fip f m → (g ≡ f) × (read ≡ Ok m)
in_body g f m (Err fault) e = absurd (cc)
in_body g f m (Ok n) e = let parts = same_fip e in (parts.0, ap (λ x. Ok x) parts.1)

in_frame : (g f : Eth) (m : fip.Fip) (is_fip is_fcoe : Bool) → frame_of g is_fip is_fcoe ≡ Fip f m → (is_fip ≡ true) × (g ≡ f) × (reading.decoded g.body ≡ Ok m)
in_frame g f m true is_fcoe e = let parts = in_body g f m (reading.decoded g.body) e in (refl, parts.0, parts.1)
in_frame g f m false true e = absurd (cc)
in_frame g f m false false e = absurd (cc)

in_read : (whole : Bool) (read : Result Eth EthFault) (f : Eth) (m : fip.Fip) → read_of whole read ≡ Fip f m → HasMessage whole read f m
in_read false read f m e = absurd (cc)
in_read true (Err fault) f m e = absurd (cc)
in_read true (Ok g) f m e =
    let parts = in_frame g f m (g.kind == FIP) (g.kind == FCOE) e in
    let same : g ≡ f = parts.1 in
    record {
      is_whole = refl;
      is_read = ap (λ x. Ok x) same;
      kind = subst (λ x. (x.kind == FIP) ≡ true) same parts.0;
      message = subst (λ x. reading.decoded x.body ≡ Ok m) same parts.2;
    }

heard_message : (caught : Caught) (f : Eth) (m : fip.Fip) → decoded caught ≡ Fip f m → HasMessage caught.whole (eth.decoded caught.bytes) f m
unfolding decoded
heard_message caught f m e = in_read caught.whole (eth.decoded caught.bytes) f m e

message_heard : (caught : Caught) (f : Eth) (m : fip.Fip) → caught.whole ≡ true → eth.decoded caught.bytes ≡ Ok f → (f.kind == FIP) ≡ true → reading.decoded f.body ≡ Ok m → decoded caught ≡ Fip f m
unfolding decoded
message_heard caught f m whole read kind message =
    ap (λ b. read_of b (eth.decoded caught.bytes)) whole ∙ ap (λ r. read_of true r) read ∙ ap (λ b. frame_of f b (f.kind == FCOE)) kind ∙ ap (body_of f) message

-- ---- the rows

abbrev by_rule : Option Cause → Judgement → Judgement
by_rule o j = elim o as (λ _. Judgement) [ Some cause ↦ Must (Dropped cause) | None ↦ j ]

-- the judgement by what was decoded
abbrev judged_of : Settings → Tables → ℕ → Caught → What → Judgement
judged_of c T port caught what = by_rule (rule_for c T port caught what) (message_judged c T port caught what)

judged_is : (c : Settings) (T : Tables) (port : ℕ) (caught : Caught) → judged c T port caught ≡ judged_of c T port caught (decoded caught)
unfolding judged
judged_is c T port caught = refl

-- the first four rows on the frame itself, with all others behind them
abbrev frame_rows : Bool → Bool → Bool → Bool → List (Bool × Cause) → List (Bool × Cause)
frame_rows a b d e more = (a, plain rule.Vlan) ∷ (b, plain rule.FipDest) ∷ (d, plain rule.FipRole) ∷ (e, plain rule.FipMac) ∷ more

-- which of the two answers a judgement is, if it is one
abbrev answer : Judgement → Option Bool
answer (Must Vlans) = Some true
answer (Must Advertised) = Some false
answer (Must _) = None
answer (MayGrant r) = None

abbrev Answers : Verdict → Type 0
Answers v = answer (Must v) ≡ None → ⊥

not_dropped : (o : Option Cause) (v : Verdict) → Answers v → by_rule o (Must v) ≡ Must v → o ≡ None
not_dropped None v h is = refl
not_dropped (Some cause) v h is = absurd (h (sym (ap answer is)))

passes : (a b d e : Bool) (more : List (Bool × Cause)) (v : Verdict) → a ≡ false → b ≡ false → d ≡ false → e ≡ false → first_row more ≡ None →
    by_rule (first_row (frame_rows a b d e more)) (Must v) ≡ Must v
passes a b d e more v p q r s none =
    ap (λ x. by_rule (first_row (frame_rows x b d e more)) (Must v)) p ∙ ap (λ x. by_rule (first_row (frame_rows false x d e more)) (Must v)) q
    ∙ ap (λ x. by_rule (first_row (frame_rows false false x e more)) (Must v)) r ∙ ap (λ x. by_rule (first_row (frame_rows false false false x more)) (Must v)) s
    ∙ ap (λ o. by_rule o (Must v)) none

-- a frame of another judgement isn't answered so
otherwise : (o : Option Cause) (j : Judgement) (v : Verdict) → Answers v → (answer j ≡ answer (Must v) → ⊥) → by_rule o j ≡ Must v → ⊥
otherwise None j v h other e = other (ap answer e)
otherwise (Some cause) j v h other e = h (sym (ap answer e))

unanswered : (o : Option Cause) (j : Judgement) (v : Verdict) → Answers v → answer j ≡ None → by_rule o j ≡ Must v → ⊥
unanswered o j v h none = otherwise o j v h (λ e. h (sym e ∙ none))

fcoe_unanswered : (j : Judgement) → IsOfFcoe j → answer j ≡ None
fcoe_unanswered (Must Vlans) h = absurd (cc)
fcoe_unanswered (Must Advertised) h = absurd (cc)
fcoe_unanswered (Must _) h = refl
fcoe_unanswered (MayGrant r) h = absurd h

login_unanswered : (c : Settings) (T : Tables) (port : ℕ) (caught : Caught) (fp : Bool) (kind : LoginKind) (f : fc.Frame) (mac : List ℕ) →
    answer (frame_judged c T port caught fp kind f mac) ≡ None
login_unanswered c T port caught fp kind f mac = by_payload (els.payload_of f.payload)
  where
    asks : (p : LoginParms) → answer (login_judged c T port caught fp kind p) ≡ None
    asks p =
        let r : Request = request_of kind port caught p in
        refused_or (λ j. answer j ≡ None) (λ why. refl) (login_rows c T port caught fp r p) (MayGrant r) refl

    by_payload : (v : els.Els) → answer (elim v as (λ _. Judgement) [
      | els.Flogi p ↦ login_judged c T port caught fp kind p
      | els.Fdisc p ↦ login_judged c T port caught fp kind p
      | els.Logo address name ↦
          unless_refused ((not (holds (is_own_logout c T port caught mac address name) (port_at f.head.s_id T.ports)), (3, 0)) ∷ []) (Must (Logout f.head.s_id))
      | _ ↦ Must (Dropped (plain rule.ElsKind))
    ]) ≡ None
    by_payload (els.Flogi p) = asks p
    by_payload (els.Fdisc p) = asks p
    by_payload (els.Logo address name) =
        refused_or (λ j. answer j ≡ None) (λ why. refl) ((not (holds (is_own_logout c T port caught mac address name) (port_at f.head.s_id T.ports)), (3, 0)) ∷ []) (Must (Logout f.head.s_id)) refl
    by_payload _ = refl

-- what is neither a request nor a solicitation has neither answer
abbrev is_asking : What → Bool
is_asking (Fip f (VlanAsk _ _)) = true
is_asking (Fip f (Solicit _ _ _ _ _)) = true
is_asking _ = false

not_asking : (c : Settings) (T : Tables) (port : ℕ) (caught : Caught) (what : What) (v : Verdict) → Answers v → is_asking what ≡ false → judged_of c T port caught what ≡ Must v → ⊥
not_asking c T port caught (Bad fault) v h off e = unanswered (rule_for c T port caught (Bad fault)) (Must (Dropped (cause_of_unreadable fault))) v h refl e
not_asking c T port caught (Fcoe f (Ok x)) v h off e =
    unanswered (rule_for c T port caught (Fcoe f (Ok x))) (fcoe_judged c T x.frame) v h (fcoe_unanswered (fcoe_judged c T x.frame) (body_of_fcoe c T x.frame)) e
not_asking c T port caught (Fcoe f (Err fault)) v h off e = unanswered (rule_for c T port caught (Fcoe f (Err fault))) (Must (Dropped (plain rule.FcoeLength))) v h refl e
not_asking c T port caught (Fip f (Login kind fp l mac)) v h off e =
    unanswered (rule_for c T port caught (Fip f (Login kind fp l mac))) (frame_judged c T port caught fp kind (fc_of l) mac) v h (login_unanswered c T port caught fp kind (fc_of l) mac) e
not_asking c T port caught (Fip f (Keep mac None)) v h off e = unanswered (rule_for c T port caught (Fip f (Keep mac None))) (Must AliveNode) v h refl e
not_asking c T port caught (Fip f (Keep mac (Some vx))) v h off e = unanswered (rule_for c T port caught (Fip f (Keep mac (Some vx)))) (Must (AlivePort vx.address)) v h refl e
not_asking c T port caught (Fip f (VlanAsk mac _)) v h off e = absurd (cc)
not_asking c T port caught (Fip f (Solicit from_fcf fp mac node size)) v h off e = absurd (cc)
not_asking c T port caught (Fip f m) v h off e = unanswered (rule_for c T port caught (Fip f m)) (Must (Dropped (plain rule.FipRole))) v h refl e

-- a verdict that is no grant meets the judgement of that verdict alone
vlans_met : (c : Settings) (T : Tables) (j : Judgement) → Meets c T j Vlans → j ≡ Must Vlans
vlans_met c T (Must v) e = ap Must (sym e)
vlans_met c T (MayGrant r) e = absurd e

advertised_met : (c : Settings) (T : Tables) (j : Judgement) → Meets c T j Advertised → j ≡ Must Advertised
advertised_met c T (Must v) e = ap Must (sym e)
advertised_met c T (MayGrant r) e = absurd e

-- to the forwarder, or to all
abbrev is_to : Settings → Eth → Bool
is_to c f = same_bytes f.dst c.fcf_mac || same_bytes f.dst ALL_FCFS

to_means : (c : Settings) (f : Eth) → not (is_to c f) ≡ false → (f.dst ≡ c.fcf_mac) ⊎ (f.dst ≡ ALL_FCFS)
to_means c f e = ⊎_elim (λ t. inl ((bytes_eq-Decides f.dst c.fcf_mac).0 t)) (λ t. inr ((bytes_eq-Decides f.dst ALL_FCFS).0 t)) (or_cases (same_bytes f.dst c.fcf_mac) (same_bytes f.dst ALL_FCFS) (holds_from (is_to c f) e))

to_from : (c : Settings) (f : Eth) → (f.dst ≡ c.fcf_mac) ⊎ (f.dst ≡ ALL_FCFS) → not (is_to c f) ≡ false
to_from c f h = ap not (⊎_elim (λ t. or_left (same_bytes f.dst c.fcf_mac) (same_bytes f.dst ALL_FCFS) ((bytes_eq-Decides f.dst c.fcf_mac).1 t)) (λ t. or_right (same_bytes f.dst c.fcf_mac) (same_bytes f.dst ALL_FCFS) ((bytes_eq-Decides f.dst ALL_FCFS).1 t)) h)

names_means : (named src : List ℕ) → not (same_bytes named src) ≡ false → named ≡ src
names_means named src e = (bytes_eq-Decides named src).0 (holds_from (same_bytes named src) e)

names_from : (named src : List ℕ) → named ≡ src → not (same_bytes named src) ≡ false
names_from named src e = ap not ((bytes_eq-Decides named src).1 e)

-- ---- VLAN requests

vlans_answer : Answers Vlans
vlans_answer e = cc

record HeardAsk (c : Settings) (what : What) : Type 0 where
  frame : Eth
  named : List ℕ
  node : Option ℕ
  is : what ≡ Fip frame (VlanAsk named node)
  vlan : is_wrong_vlan c.vlan frame true ≡ false
  dest : not (is_to c frame) ≡ false
  source : not (same_bytes named frame.src) ≡ false

heard_ask : (c : Settings) (T : Tables) (port : ℕ) (caught : Caught) (what : What) → judged_of c T port caught what ≡ Must Vlans → HeardAsk c what
unfolding rule_for
heard_ask c T port caught (Fip f (VlanAsk named node)) e =
    let rows : List (Bool × Cause) = fip_rows c T port caught f (VlanAsk named node) in
    let none : (r : Rule) → test_of r rows ≡ false = λ r. test_false r rows (not_dropped (first_row rows) Vlans vlans_answer e) in
    record { frame = f; named = named; node = node; is = refl; vlan = none rule.Vlan; dest = none rule.FipDest; source = none rule.FipMac }
heard_ask c T port caught (Fip f (Solicit from_fcf fp mac node size)) e =
    absurd (otherwise (rule_for c T port caught (Fip f (Solicit from_fcf fp mac node size))) (Must Advertised) Vlans vlans_answer (λ w. cc) e)
heard_ask c T port caught (Fip f m) e = absurd (not_asking c T port caught (Fip f m) Vlans vlans_answer refl e)
heard_ask c T port caught (Fcoe f read) e = absurd (not_asking c T port caught (Fcoe f read) Vlans vlans_answer refl e)
heard_ask c T port caught (Bad fault) e = absurd (not_asking c T port caught (Bad fault) Vlans vlans_answer refl e)

ask_judged : (c : Settings) (T : Tables) (port : ℕ) (caught : Caught) (f : Eth) (named : List ℕ) (node : Option ℕ) →
    is_wrong_vlan c.vlan f true ≡ false → not (is_to c f) ≡ false → not (same_bytes named f.src) ≡ false → judged_of c T port caught (Fip f (VlanAsk named node)) ≡ Must Vlans
unfolding rule_for
ask_judged c T port caught f named who vlan dest source =
    passes (is_wrong_vlan c.vlan f true) (not (is_to c f)) false (not (same_bytes named f.src)) (drop 4 (fip_rows c T port caught f (VlanAsk named who))) Vlans vlan dest refl source refl

pub request_means : (c : Settings) (T : Tables) (port : ℕ) (caught : Caught) → AllPass (λ b. nat_lt b 256) caught.bytes → IsRight c T port caught Vlans → AsksVlans c caught
request_means c T port caught bytes e =
    let a = heard_ask c T port caught (decoded caught) (sym (judged_is c T port caught) ∙ vlans_met c T (judged c T port caught) e) in
    let f = a.frame in
    let h = heard_message caught f (VlanAsk a.named a.node) a.is in
    record {
      frame = f;
      named = a.named;
      node = a.node;
      whole = h.is_whole;
      stands = stands caught.bytes f (are_bytes caught.bytes bytes) h.is_read;
      kind = eqb-true f.kind FIP h.kind;
      request = IsFip-from_decoded (VlanAsk a.named a.node) f.body h.message;
      vlan = ⊎_elim (λ t. inl (eqb-true (vlan_of_tag f.tag) c.vlan t)) (λ t. inr (eqb-true (vlan_of_tag f.tag) 0 t)) (or_cases (vlan_of_tag f.tag == c.vlan) (vlan_of_tag f.tag == 0) (holds_from _ a.vlan));
      dest = to_means c f a.dest;
      source = names_means a.named f.src a.source;
    }

pub request_from : (c : Settings) (T : Tables) (port : ℕ) (caught : Caught) → AsksVlans c caught → IsRight c T port caught Vlans
request_from c T port caught a =
    let f = a.frame in
    let heard = message_heard caught f (VlanAsk a.named a.node) a.whole (decoded-is f caught.bytes a.stands) (eq-eqb f.kind FIP a.kind) (decoded-from_IsFip (VlanAsk a.named a.node) f.body a.request) in
    let vlan : is_wrong_vlan c.vlan f true ≡ false = ap not (⊎_elim (λ t. or_left (vlan_of_tag f.tag == c.vlan) (vlan_of_tag f.tag == 0) (eq-eqb (vlan_of_tag f.tag) c.vlan t)) (λ t. or_right (vlan_of_tag f.tag == c.vlan) (vlan_of_tag f.tag == 0) (eq-eqb (vlan_of_tag f.tag) 0 t)) a.vlan) in
    let is = judged_is c T port caught ∙ ap (judged_of c T port caught) heard ∙ ask_judged c T port caught f a.named a.node vlan (to_from c f a.dest) (names_from a.named f.src a.source) in
    subst (λ j. Meets c T j Vlans) (sym is) refl

-- ---- solicitations

advertised_answers : Answers Advertised
advertised_answers e = cc

record HeardSolicit (c : Settings) (what : What) : Type 0 where
  frame : Eth
  from_fcf : Bool
  fp : Bool
  named : List ℕ
  node : ℕ
  size : ℕ
  is : what ≡ Fip frame (Solicit from_fcf fp named node size)
  vlan : is_wrong_vlan c.vlan frame false ≡ false
  dest : not (is_to c frame) ≡ false
  role : from_fcf ≡ false
  source : not (same_bytes named frame.src) ≡ false

heard_solicit : (c : Settings) (T : Tables) (port : ℕ) (caught : Caught) (what : What) → judged_of c T port caught what ≡ Must Advertised → HeardSolicit c what
unfolding rule_for
heard_solicit c T port caught (Fip f (Solicit from_fcf fp named node size)) e =
    let rows : List (Bool × Cause) = fip_rows c T port caught f (Solicit from_fcf fp named node size) in
    let none : (r : Rule) → test_of r rows ≡ false = λ r. test_false r rows (not_dropped (first_row rows) Advertised advertised_answers e) in
    record {
      frame = f;
      from_fcf = from_fcf;
      fp = fp;
      named = named;
      node = node;
      size = size;
      is = refl;
      vlan = none rule.Vlan;
      dest = none rule.FipDest;
      role = none rule.FipRole;
      source = none rule.FipMac;
    }
heard_solicit c T port caught (Fip f (VlanAsk named node)) e =
    absurd (otherwise (rule_for c T port caught (Fip f (VlanAsk named node))) (Must Vlans) Advertised advertised_answers (λ w. cc) e)
heard_solicit c T port caught (Fip f m) e = absurd (not_asking c T port caught (Fip f m) Advertised advertised_answers refl e)
heard_solicit c T port caught (Fcoe f read) e = absurd (not_asking c T port caught (Fcoe f read) Advertised advertised_answers refl e)
heard_solicit c T port caught (Bad fault) e = absurd (not_asking c T port caught (Bad fault) Advertised advertised_answers refl e)

solicit_judged : (c : Settings) (T : Tables) (port : ℕ) (caught : Caught) (f : Eth) (fp : Bool) (named : List ℕ) (node size : ℕ) →
    is_wrong_vlan c.vlan f false ≡ false → not (is_to c f) ≡ false → not (same_bytes named f.src) ≡ false → judged_of c T port caught (Fip f (Solicit false fp named node size)) ≡ Must Advertised
unfolding rule_for
solicit_judged c T port caught f fp named node size vlan dest source =
    passes (is_wrong_vlan c.vlan f false) (not (is_to c f)) false (not (same_bytes named f.src)) (drop 4 (fip_rows c T port caught f (Solicit false fp named node size))) Advertised vlan dest refl source refl

-- either the VLAN is right, or nothing
or_false : (a b : Bool) → (a || (false && b)) ≡ true → a ≡ true
or_false true b e = refl
or_false false b e = e

pub solicitation_means : (c : Settings) (T : Tables) (port : ℕ) (caught : Caught) → AllPass (λ b. nat_lt b 256) caught.bytes → IsRight c T port caught Advertised → Solicits c caught
solicitation_means c T port caught bytes e =
    let a = heard_solicit c T port caught (decoded caught) (sym (judged_is c T port caught) ∙ advertised_met c T (judged c T port caught) e) in
    let f = a.frame in
    let m = Solicit a.from_fcf a.fp a.named a.node a.size in
    let h = heard_message caught f m a.is in
    record {
      frame = f;
      fp = a.fp;
      named = a.named;
      node = a.node;
      size = a.size;
      whole = h.is_whole;
      stands = stands caught.bytes f (are_bytes caught.bytes bytes) h.is_read;
      kind = eqb-true f.kind FIP h.kind;
      request = subst (λ b. reading.IsFip (Solicit b a.fp a.named a.node a.size) f.body) a.role (IsFip-from_decoded m f.body h.message);
      vlan = eqb-true (vlan_of_tag f.tag) c.vlan (or_false (vlan_of_tag f.tag == c.vlan) (vlan_of_tag f.tag == 0) (holds_from _ a.vlan));
      dest = to_means c f a.dest;
      source = names_means a.named f.src a.source;
    }

pub solicitation_from : (c : Settings) (T : Tables) (port : ℕ) (caught : Caught) → Solicits c caught → IsRight c T port caught Advertised
solicitation_from c T port caught a =
    let f = a.frame in
    let m = Solicit false a.fp a.named a.node a.size in
    let heard = message_heard caught f m a.whole (decoded-is f caught.bytes a.stands) (eq-eqb f.kind FIP a.kind) (decoded-from_IsFip m f.body a.request) in
    let vlan : is_wrong_vlan c.vlan f false ≡ false = ap not (or_left (vlan_of_tag f.tag == c.vlan) (false && vlan_of_tag f.tag == 0) (eq-eqb (vlan_of_tag f.tag) c.vlan a.vlan)) in
    let is = judged_is c T port caught ∙ ap (judged_of c T port caught) heard ∙ solicit_judged c T port caught f a.fp a.named a.node a.size vlan (to_from c f a.dest) (names_from a.named f.src a.source) in
    subst (λ j. Meets c T j Advertised) (sym is) refl
