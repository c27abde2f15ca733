-- The judgement of a frame: the rows on the frame itself, and then those of its message.
use Rattle.std.proofs.Common.{◌≡◌, ℕ, Bool, true, false, List, [], ◌∷◌, ◌++◌, Option, Some, None, option_map, Result, Ok, Err, refl, ap, sym, ◌∙◌}
use Rattle.fab_base.specs.declared.values.Caught.{Caught}
use Rattle.fab_base.specs.declared.values.Enode.{Enode}
use Rattle.fab_config.specs.Settings.{Settings}
use Rattle.fc_frames.specs.Frame as fc
use Rattle.fip_codec.specs.declared.message.LoginKind.{LoginKind}
use Rattle.ct_messages.specs.Ct as ct
use Rattle.ct_messages.specs.Ct.{Ask, Unknown}
use Rattle.ct_messages.specs.declared.CtFault.{CtFault}
use Rattle.eth_frames.specs.Ethernet as eth
use Rattle.fcoe_codec.specs.Fcoe as capsule
use Rattle.fcoe_codec.specs.declared.FcoeFault.{FcoeFault}
use Rattle.fip_codec.specs.Message as fip
use Rattle.fab_policy.specs.Cause.{Cause, plain}
use Rattle.heard_frames.specs.Heard.{What, Bad, Fip, Fcoe, decoded, carried, login_of}
use Rattle.fab_policy.specs.Replies.{kind_asked}
use Rattle.heard_frames.specs.Rows.{first_row, is_wrong_vlan}
use Rattle.fab_policy.specs.Rules.{frame_rule, rule_for, rule_of, fip_frame_rows, fip_login_rows, fcoe_rows}
use Rattle.fab_policy.specs.State.{Tables}
use Rattle.fab_policy.specs.Verdicts.{Judgement, Must, judged, message_judged, fip_judged}
use Rattle.fab_policy.specs.declared.verdict.Verdict.TheVariants.{Dropped}
use Rattle.fab_policy.specs.declared.verdict.Rule.TheVariants as rule
use Rattle.fab_policy.specs.Carried.{BodiesAreCarried}
use Rattle.fab_policy.specs.declared.classes.Replied.TheVariants.{Rejected, Logout}
use Rattle.fab_policy.specs.declared.classes.Settled.TheVariants.{Vlans, Advertised, AliveNode, Forwarded}
use Rattle.fab_judge.specs.Judged.{HasKind, HasValues, Rests}
use Rattle.fab_judge.specs.Rows.{unless_dropped, body_judged, IsCarried}
use Rattle.fab_judge.specs.declared.judging.Judged.{Judged}
use Rattle.fab_judge.specs.declared.judging.Judged.TheVariants.{Must as Settles, Replied, MayGrant, Registers, Answers}

-- rows behind others count where none of those holds
first : (rows more : List (Bool × Cause)) (cause : Cause) → first_row rows ≡ Some cause → first_row (rows ++ more) ≡ Some cause
first [] more cause e = cc
first ((true, _) ∷ rows) more cause e = e
first ((false, _) ∷ rows) more cause e = first rows more cause e

behind : (rows more : List (Bool × Cause)) → first_row rows ≡ None → first_row (rows ++ more) ≡ first_row more
behind [] more e = refl
behind ((true, _) ∷ rows) more e = cc
behind ((false, _) ∷ rows) more e = behind rows more e

abbrev by_rule : Option Cause → Judgement → Judgement
by_rule o j = elim o [ Some cause ↦ Must (Dropped cause) | None ↦ j ]

module _ (c : Settings) (T : Tables) (port : ℕ) (caught : Caught) where
  -- a rule on the frame itself is the rule for it
  rule_first : (w : What) (cause : Cause) → frame_rule c w ≡ Some cause → rule_for c T port caught w ≡ Some cause
  unfolding rule_for
  rule_first (Bad why) cause e = e
  rule_first (Fip f m) cause e = first (fip_frame_rows c f m) (fip_login_rows c T port caught m) cause e
  rule_first (Fcoe f (Ok x)) cause e = first ((is_wrong_vlan c.vlan f false, plain rule.Vlan) ∷ []) (fcoe_rows c T port f x) cause e
  rule_first (Fcoe f (Err fault)) cause e = first ((is_wrong_vlan c.vlan f false, plain rule.Vlan) ∷ []) ((true, rule_of fault) ∷ []) cause e

  pub judged_by_rule : (cause : Cause) → frame_rule c (decoded caught) ≡ Some cause → judged c T port caught ≡ Must (Dropped cause)
  unfolding judged
  judged_by_rule cause e = ap (λ o. by_rule o (message_judged c T port caught (decoded caught))) (rule_first (decoded caught) cause e)

  abbrev told : What → Judgement
  told w = by_rule (rule_for c T port caught w) (message_judged c T port caught w)

  judged_is : (w : What) → decoded caught ≡ w → judged c T port caught ≡ told w
  unfolding judged
  judged_is w e = ap told e

  pub judged_fip : (f : eth.Eth) (m : fip.Fip) → decoded caught ≡ Fip f m → frame_rule c (Fip f m) ≡ None →
      judged c T port caught ≡ unless_dropped (fip_login_rows c T port caught m) (fip_judged c T port caught m)
  unfolding rule_for
  judged_fip f m d e = judged_is (Fip f m) d ∙ ap (λ o. by_rule o (fip_judged c T port caught m)) (behind (fip_frame_rows c f m) (fip_login_rows c T port caught m) e)

  pub judged_fcoe : (f : eth.Eth) (read : Result capsule.Fcoe FcoeFault) → decoded caught ≡ Fcoe f read → frame_rule c (Fcoe f read) ≡ None →
      judged c T port caught ≡ body_judged c T port f read
  unfolding rule_for
  judged_fcoe f (Ok x) d e = judged_is (Fcoe f (Ok x)) d ∙ ap (λ o. by_rule o (message_judged c T port caught (Fcoe f (Ok x)))) (behind ((is_wrong_vlan c.vlan f false, plain rule.Vlan) ∷ []) (fcoe_rows c T port f x) e)
  judged_fcoe f (Err fault) d e = judged_is (Fcoe f (Err fault)) d ∙ ap (λ o. by_rule o (message_judged c T port caught (Fcoe f (Err fault)))) (behind ((is_wrong_vlan c.vlan f false, plain rule.Vlan) ∷ []) ((true, rule_of fault) ∷ []) e)

-- a body carries its frame
pub carried_by : BodiesAreCarried → (caught : Caught) (f : eth.Eth) (read : Result capsule.Fcoe FcoeFault) → decoded caught ≡ Fcoe f read → IsCarried read (carried caught)
carried_by law caught f (Ok x) d = (law caught f x d).0
carried_by law caught f (Err fault) d = tt

-- the request of a payload that was read
abbrev asked_in : Result Ask CtFault → Ask
asked_in r = elim r [ Ok ask ↦ ask | Err fault ↦ Unknown 0 ]

-- the values of a judgement of a body
pub body_values : BodiesAreCarried → (c : Settings) (T : Tables) (x : Enode) (flogi : Bool) (port : ℕ) (caught : Caught) (g : eth.Eth) (b : capsule.Fcoe) → decoded caught ≡ Fcoe g (Ok b) →
    (j : Judged) → Rests c T x flogi b.frame j → HasKind None j → HasValues port caught j
body_values law c T x flogi port caught g b d (Settles (Forwarded q to)) rests kind = ((g, b, d), rests.3 ∙ ap (λ (f : fc.Frame). f.head.d_id) (sym (law caught g b d).0))
body_values law c T x flogi port caught g b d (Settles (Vlans to untagged)) rests kind = absurd kind
body_values law c T x flogi port caught g b d (Settles (Advertised to size)) rests kind = absurd kind
body_values law c T x flogi port caught g b d (Settles (AliveNode y)) rests kind = absurd kind
body_values law c T x flogi port caught g b d (Settles _) rests kind = tt
body_values law c T x flogi port caught g b d (Replied (Rejected login reason explanation) to) rests kind = kind ∙ ap (option_map (λ l. l.0)) (sym (law caught g b d).1)
body_values law c T x flogi port caught g b d (Replied (Logout own a) to) rests kind = cc
body_values law c T x flogi port caught g b d (Replied _ to) rests kind = tt
body_values law c T x flogi port caught g b d (MayGrant login) rests kind = cc
body_values law c T x flogi port caught g b d (Registers to ask) rests kind =
    ((g, b, d), sym (ap asked_in rests.0.read) ∙ ap (λ (f : fc.Frame). asked_in (ct.decoded f.payload)) (sym (law caught g b d).0))
body_values law c T x flogi port caught g b d (Answers to tell size) rests kind = tt

-- the kind of a login is the one that its frame asks for
kind_is : (caught : Caught) (kind own : LoginKind) (l : List ℕ) → login_of caught ≡ Some (kind, l) → Some kind ≡ Some own → own ≡ kind_asked caught
kind_is caught kind own l is same = rw (kind_asked, is) cc

-- the values of a judgement of a login
pub login_values : (port : ℕ) (caught : Caught) (kind : LoginKind) (l : List ℕ) → login_of caught ≡ Some (kind, l) → (j : Judged) → HasKind (Some kind) j → HasValues port caught j
login_values port caught kind l is (Settles (Forwarded q to)) h = cc
login_values port caught kind l is (Settles (Vlans to untagged)) h = absurd h
login_values port caught kind l is (Settles (Advertised to size)) h = absurd h
login_values port caught kind l is (Settles (AliveNode y)) h = absurd h
login_values port caught kind l is (Settles _) h = tt
login_values port caught kind l is (Replied (Rejected login reason explanation) to) h = h ∙ ap (option_map (λ l. l.0)) (sym is)
login_values port caught kind l is (Replied (Logout own a) to) h = kind_is caught kind own l is h
login_values port caught kind l is (Replied _ to) h = tt
login_values port caught kind l is (MayGrant login) h = kind_is caught kind login.kind l is h
login_values port caught kind l is (Registers to ask) h = cc
login_values port caught kind l is (Answers to tell size) h = tt
