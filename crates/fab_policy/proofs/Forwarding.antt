-- A data frame goes on exactly where it is allowed, and is dropped by a rule elsewhere.
use Rattle.std.proofs.Common.{◌≡◌, ℕ, Bool, true, false, not, ◌&&◌, ◌||◌, ◌==◌, [], ◌∷◌, Option, Some, None, is_some, Ok, Err, refl, ap, subst, ◌∙◌, arith, nat_lt, length}
use Rattle.std.proofs.lemmas.Bool.{and_parts}
use Rattle.std.proofs.lemmas.Bool.Decides.{nat_tests}
use Rattle.fab_base.specs.declared.values.Caught.{Caught}
use Rattle.fab_config.specs.Settings.{Settings, same_bytes}
use Rattle.eth_frames.specs.Ethernet as eth
use Rattle.fcoe_codec.specs.Fcoe as capsule
use Rattle.heard_frames.specs.Heard.{What, Bad, Fip, Fcoe, decoded, d_id}
use Rattle.fab_policy.specs.Cause.{plain, Cause}
use Rattle.fab_policy.specs.Logins.{granted_mac}
use Rattle.fab_policy.specs.State.{Tables, LivePort, port_at, tables_of}
use Rattle.heard_frames.specs.Rows.{first_row}
use Rattle.fab_policy.specs.Rules.{rule_for, is_class3, is_service, is_for_service, is_bad_els, is_ct_request, holds, joined, SERVICES}
use Rattle.fab_policy.specs.Verdicts.{Judgement, Must, Meets, judged, message_judged, service_judged}
use Rattle.fab_policy.specs.Forwarding.{ForwardsExactly, LegalForwards, IsForwardedTo, IsDroppedBy, is_data, is_allowed, is_frame}
use Rattle.fab_policy.specs.declared.verdict.Verdict.{Verdict}
use Rattle.fab_policy.specs.declared.verdict.Verdict.TheVariants.{Forwarded, Dropped}
use Rattle.fab_policy.specs.declared.verdict.Rule.TheVariants as rule
use Rattle.fab_policy.proofs.Carried.{bodies_are_carried}

-- the rule that drops a frame, by the answers of its tests, for a D_ID below the services
rule_by : (vlan class dest mac sent_here service els ct own : Bool) (from to : Option LivePort) (joins : Bool) → Option Cause
rule_by vlan class dest mac sent_here service els ct own from to joins = first_row
    ((not (vlan || false), plain rule.Vlan) ∷ (not class, plain rule.FcoeClass) ∷ (not dest, plain rule.FcoeDest) ∷ (not mac, plain rule.SourceMac)
    ∷ (not (is_some from), plain rule.SourceLogin) ∷ (not sent_here, plain rule.SourcePort) ∷ (false, plain rule.ServiceAddress) ∷ (service, plain rule.ServiceFrame)
    ∷ (els, plain rule.ElsShort) ∷ (ct, plain rule.CtShort) ∷ (own, plain rule.OwnAddress) ∷ (not (is_some to), plain rule.DestLogin) ∷ (not joins, plain rule.Zone) ∷ [])

-- the verdict by that rule
verdict_by : Option Cause → Option LivePort → Verdict
verdict_by o to = elim o [ Some cause ↦ Dropped cause | None ↦ elim to [ Some q ↦ Forwarded q.enode.port | None ↦ Dropped (plain rule.DestLogin) ] ]

-- the rule and the verdict of a data frame
exact : (mac : Bool) (from to : Option LivePort) (here : LivePort → Bool) (joins : LivePort → LivePort → Bool) →
    (let o : Option Cause = rule_by true true true mac (holds here from) false false false false from to (holds (λ p. holds (λ q. joins p q) to) from) in
    (mac && holds (λ p. here p && holds (λ q. joins p q) to) from ≡ true → IsForwardedTo to (verdict_by o to)) × (mac && holds (λ p. here p && holds (λ q. joins p q) to) from ≡ false → IsDroppedBy o (verdict_by o to)))
unfolding rule_by verdict_by
exact false from to here joins = (λ e. cc, λ e. (plain rule.SourceMac, refl, refl))
exact true None to here joins = (λ e. cc, λ e. (plain rule.SourceLogin, refl, refl))
exact true (Some p) None here joins = elim (here p) as (λ h.
    let o : Option Cause = rule_by true true true true h false false false false (Some p) None false in
    (h && false ≡ true → IsForwardedTo None (verdict_by o None)) × (h && false ≡ false → IsDroppedBy o (verdict_by o None)))
    [ true ↦ (λ e. cc, λ e. (plain rule.DestLogin, refl, refl)) | false ↦ (λ e. cc, λ e. (plain rule.SourcePort, refl, refl)) ]
exact true (Some p) (Some q) here joins = elim (here p) as (λ h.
    let o : Option Cause = rule_by true true true true h false false false false (Some p) (Some q) (joins p q) in
    (h && joins p q ≡ true → IsForwardedTo (Some q) (verdict_by o (Some q))) × (h && joins p q ≡ false → IsDroppedBy o (verdict_by o (Some q)))) [
      | true ↦ elim (joins p q) as (λ j.
          let o : Option Cause = rule_by true true true true true false false false false (Some p) (Some q) j in
          (j ≡ true → IsForwardedTo (Some q) (verdict_by o (Some q))) × (j ≡ false → IsDroppedBy o (verdict_by o (Some q))))
          [ true ↦ (λ e. (q, refl, refl), λ e. cc) | false ↦ (λ e. cc, λ e. (plain rule.Zone, refl, refl)) ]
      | false ↦ (λ e. cc, λ e. (plain rule.SourcePort, refl, refl))
    ]

-- the rule by all tests
rule_of_all : (vlan class dest mac sent_here to_port service for_service els ct short own : Bool) (from to : Option LivePort) (joins : Bool) → Option Cause
rule_of_all vlan class dest mac sent_here to_port service for_service els ct short own from to joins = first_row
    ((not (vlan || false), plain rule.Vlan) ∷ (not class, plain rule.FcoeClass) ∷ (not dest, plain rule.FcoeDest) ∷ (not mac, plain rule.SourceMac)
    ∷ (not (is_some from), plain rule.SourceLogin) ∷ (not sent_here, plain rule.SourcePort) ∷ (not to_port && not service, plain rule.ServiceAddress)
    ∷ (service && not for_service, plain rule.ServiceFrame) ∷ (service && els, plain rule.ElsShort) ∷ (service && ct && short, plain rule.CtShort)
    ∷ (to_port && own, plain rule.OwnAddress) ∷ (to_port && not (is_some to), plain rule.DestLogin) ∷ (to_port && not joins, plain rule.Zone) ∷ [])

-- the judgement by that rule, with another one for the services
judged_by : Option Cause → Bool → Option LivePort → Judgement → Judgement
judged_by o to_port to other = elim o [
  | Some cause ↦ Must (Dropped cause)
  | None ↦ elim to_port [ true ↦ elim to [ Some q ↦ Must (Forwarded q.enode.port) | None ↦ Must (Dropped (plain rule.DestLogin)) ] | false ↦ other ]
]

-- for an N_Port's address only the tests of a data frame count
to_n_port : (mac sent_here for_service els ct short : Bool) (from to : Option LivePort) (joins : Bool) →
    rule_of_all true true true mac sent_here true false for_service els ct short false from to joins ≡ rule_by true true true mac sent_here false false false false from to joins
unfolding rule_by rule_of_all
to_n_port mac sent_here for_service els ct short from to joins = refl

must : (o : Option Cause) (to : Option LivePort) (other : Judgement) → judged_by o true to other ≡ Must (verdict_by o to)
unfolding judged_by verdict_by
must (Some cause) to other = refl
must None (Some q) other = refl
must None None other = refl

not_true : (b : Bool) → not b ≡ true → b ≡ false
not_true true e = cc
not_true false e = refl

no_service : (d : ℕ) → nat_lt d SERVICES ≡ true → is_service d ≡ false
no_service d lt = grind (arith, nat_tests)

-- the rule for a frame of a port, and what it is judged by it
module _ (c : Settings) (T : Tables) (port : ℕ) (x : capsule.Fcoe) where
  abbrev from : Option LivePort
  from = port_at x.frame.head.s_id T.ports

  abbrev to : Option LivePort
  to = port_at x.frame.head.d_id T.ports

  abbrev here : Bool
  here = holds (λ p. p.enode.port == port) from

  abbrev joins : Bool
  joins = holds (λ p. holds (λ q. joined c T p.name q.name) to) from

  abbrev tested : eth.Eth → Option Cause
  tested f = rule_of_all (eth.vlan_of_tag f.tag == c.vlan) (is_class3 x) (same_bytes f.dst c.fcf_mac) (same_bytes f.src (granted_mac c x.frame.head.s_id))
      here (nat_lt x.frame.head.d_id SERVICES) (is_service x.frame.head.d_id) (is_for_service x) (is_bad_els x.frame) (is_ct_request x.frame)
      (nat_lt (length x.frame.payload) 16) (x.frame.head.d_id == x.frame.head.s_id) from to joins

  rule_is : (caught : Caught) (f : eth.Eth) → decoded caught ≡ Fcoe f (Ok x) → rule_for c T port caught (decoded caught) ≡ tested f
  unfolding rule_for rule_of_all
  rule_is caught f e = ap (λ w. rule_for c T port caught w) e

  judged_is : (caught : Caught) (f : eth.Eth) → decoded caught ≡ Fcoe f (Ok x) → judged c T port caught ≡ judged_by (tested f) (nat_lt x.frame.head.d_id SERVICES) to (service_judged c T x.frame)
  unfolding judged rule_for rule_of_all judged_by
  judged_is caught f e = ap (λ w. elim (rule_for c T port caught w) as (λ _. Judgement) [ Some cause ↦ Must (Dropped cause) | None ↦ message_judged c T port caught w ]) e

-- the tests of a data frame
data_tests : (v d3 c3 lt same : Bool) → v && d3 && c3 && lt && not same ≡ true → (v ≡ true) × (d3 ≡ true) × (c3 ≡ true) × (lt ≡ true) × (same ≡ false)
data_tests v d3 c3 lt same e =
    let first = and_parts (v && d3 && c3 && lt) (not same) e in
    let second = and_parts (v && d3 && c3) lt first.0 in
    let third = and_parts (v && d3) c3 second.0 in
    let fourth = and_parts v d3 third.0 in
    (fourth.0, fourth.1, third.1, second.1, not_true same first.1)

same_tests : (v v' c c' d d' t t' s s' o o' mac sent for_service els ct short : Bool) (from to : Option LivePort) (joins : Bool) →
    v ≡ v' → c ≡ c' → d ≡ d' → t ≡ t' → s ≡ s' → o ≡ o' →
    rule_of_all v c d mac sent t s for_service els ct short o from to joins ≡ rule_of_all v' c' d' mac sent t' s' for_service els ct short o' from to joins
same_tests v v' c c' d d' t t' s s' o o' mac sent for_service els ct short from to joins e1 e2 e3 e4 e5 e6 = cc

-- a read data frame
read_exactly : (c : Settings) (T : Tables) (port : ℕ) (caught : Caught) (f : eth.Eth) (x : capsule.Fcoe) → decoded caught ≡ Fcoe f (Ok x) → is_data c (f, x) ≡ true →
    (verdict : Verdict) × (judged c T port caught ≡ Must verdict)
    × (is_allowed c T port (f, x) ≡ true → IsForwardedTo (port_at (d_id caught) T.ports) verdict)
    × (is_allowed c T port (f, x) ≡ false → IsDroppedBy (rule_for c T port caught (decoded caught)) verdict)
read_exactly c T port caught f x e h =
    let tests = data_tests (eth.vlan_of_tag f.tag == c.vlan) (same_bytes f.dst c.fcf_mac) (is_class3 x) (nat_lt x.frame.head.d_id SERVICES) (x.frame.head.d_id == x.frame.head.s_id) h in
    let mac : Bool = same_bytes f.src (granted_mac c x.frame.head.s_id) in
    let o : Option Cause = rule_by true true true mac (here c T port x) false false false false (from c T port x) (to c T port x) (joins c T port x) in
    let is : tested c T port x f ≡ o =
    same_tests (eth.vlan_of_tag f.tag == c.vlan) true (is_class3 x) true (same_bytes f.dst c.fcf_mac) true (nat_lt x.frame.head.d_id SERVICES) true (is_service x.frame.head.d_id) false
    (x.frame.head.d_id == x.frame.head.s_id) false mac (here c T port x) (is_for_service x) (is_bad_els x.frame) (is_ct_request x.frame) (nat_lt (length x.frame.payload) 16)
    (from c T port x) (to c T port x) (joins c T port x) tests.0 tests.2 tests.1 tests.3 (no_service x.frame.head.d_id tests.3) tests.4
    ∙ to_n_port mac (here c T port x) (is_for_service x) (is_bad_els x.frame) (is_ct_request x.frame) (nat_lt (length x.frame.payload) 16) (from c T port x) (to c T port x) (joins c T port x) in
    let all : judged c T port caught ≡ Must (verdict_by o (to c T port x)) =
    judged_is c T port x caught f e
    ∙ ap (λ r. judged_by r (nat_lt x.frame.head.d_id SERVICES) (to c T port x) (service_judged c T x.frame)) is
    ∙ ap (λ b. judged_by o b (to c T port x) (service_judged c T x.frame)) tests.3
    ∙ must o (to c T port x) (service_judged c T x.frame) in
    let cases = exact mac (from c T port x) (to c T port x) (λ p. p.enode.port == port) (λ p q. joined c T p.name q.name) in (
      verdict_by o (to c T port x),
      all,
      λ g. let there = cases.0 g in (there.0, ap (λ k. port_at k.head.d_id T.ports) (bodies_are_carried caught f x e).0 ∙ there.1, there.2),
      λ g. let why = cases.1 g in (why.0, rule_is c T port x caught f e ∙ is ∙ why.1, why.2),
    )

second_false : (a b : Bool) → a ≡ true → a && b ≡ false → b ≡ false
second_false true b e g = g
second_false false b e g = cc

pub forwards_exactly : ForwardsExactly
forwards_exactly c T port caught h = by_what (decoded caught) refl h
  where
    by_what : (w : What) → decoded caught ≡ w → is_frame (is_data c) w ≡ true → (verdict : Verdict) × (judged c T port caught ≡ Must verdict)
        × (is_frame (λ p. is_data c p && is_allowed c T port p) w ≡ true → IsForwardedTo (port_at (d_id caught) T.ports) verdict)
        × (is_frame (λ p. is_data c p && is_allowed c T port p) w ≡ false → IsDroppedBy (rule_for c T port caught (decoded caught)) verdict)
    by_what (Bad fault) e h = absurd cc
    by_what (Fip f m) e h = absurd cc
    by_what (Fcoe f (Err fault)) e h = absurd cc
    by_what (Fcoe f (Ok x)) e h =
        let all = read_exactly c T port caught f x e h in (
          all.0,
          all.1,
          λ g. all.2 (and_parts (is_data c (f, x)) (is_allowed c T port (f, x)) g).1,
          λ g. all.3 (second_false (is_data c (f, x)) (is_allowed c T port (f, x)) h g),
        )

-- a right verdict is the only one
pub legal_forwards : LegalForwards
legal_forwards c J port index caught verdict l h =
    let all = forwards_exactly c (tables_of c J) port caught h in
    let same : verdict ≡ all.0 = subst (λ j. Meets c (tables_of c J) j verdict) all.1 l.1.1 in (
      λ g. let there = all.2 g in (there.0, there.1, same ∙ there.2),
      λ g. let why = all.3 g in (why.0, why.1, same ∙ why.2),
    )
