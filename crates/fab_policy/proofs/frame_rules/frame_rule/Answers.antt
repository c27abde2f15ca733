use Rattle.std.proofs.Common.{Some, ap, sym, ◌∙◌}
use Rattle.fab_policy.specs.Rules as rules
use Rattle.heard_frames.specs.View.{view}
use Rattle.fab_policy.proofs.frame_rules.frame_rule.Goals as goal

pub returns-in-Bad : goal.returns-in-Bad
returns-in-Bad c = ap Some c.cause_of_unreadable.ensures ∙ ap (rules.frame_rule c.args.config.now) (ap view (sym c.in-Bad.is) ∙ c.args.heard.now.decoded)

pub returns-in-Fip : goal.returns-in-Fip
returns-in-Fip c = c.fip_rule.ensures ∙ ap (rules.frame_rule c.args.config.now) (ap view (sym c.in-Fip.is) ∙ c.args.heard.now.decoded)

pub returns-in-Fcoe : goal.returns-in-Fcoe
returns-in-Fcoe c = c.fcoe_rule.ensures ∙ ap (rules.frame_rule c.args.config.now) (ap view (sym c.in-Fcoe.is) ∙ c.args.heard.now.decoded)
