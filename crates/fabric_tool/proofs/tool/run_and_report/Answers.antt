-- The two ways: words of a form, and others.
use Rattle.std.proofs.Common.{Some, None, refl, sym, ◌∙◌, subst}
use Rattle.fabric_tool.specs.Ends.{HoldsFor}
use Rattle.fabric_tool.specs.declared.outcome.Outcome.TheVariants as ends
use Rattle.fabric_tool.proofs.CauseLemmas.{ended_as}
use Rattle.fabric_tool.proofs.FormLemmas.{command_is}
use Rattle.fabric_tool.proofs.TouchLemmas.{own_of}
use Rattle.fabric_tool.proofs.tool.run_and_report.Goals as goal

pub returns-in-Some : goal.returns-in-Some
returns-in-Some g c =
    let seen = g.D.Depot.seen in
    let holds = subst (λ k. HoldsFor k (seen c.args.depot.now) (seen c.outcome_by.new.depot) c.outcome_by.result) (sym (command_is c.args.words.now (Some c.in-Some.form) (sym c.form_of.ensures ∙ c.in-Some.is))) c.outcome_by.ensures.holds in
    record {
      ends = ended_as c.args.words.now _ _ _ _ c.report.result c.outcome_by.result holds c.report.ensures.reports;
      touches = own_of c.args.words.now c.in-Some.form (sym c.form_of.ensures ∙ c.in-Some.is) _ _ c.outcome_by.ensures.touches;
    }

pub returns-in-None : goal.returns-in-None
returns-in-None g c =
    let seen = g.D.Depot.seen in
    let none = command_is c.args.words.now None (sym c.form_of.ensures ∙ c.in-None.is) in
    let holds = subst (λ k. HoldsFor k (seen c.args.depot.now) (seen c.args.depot.now) ends.Words) (sym none) (refl, refl) in
    record {
      ends = ended_as c.args.words.now _ _ _ _ c.report-in-None.result ends.Words holds c.report-in-None.ensures.reports;
      touches = λ k is. let none = command_is c.args.words.now None (sym c.form_of.ensures ∙ c.in-None.is) in absurd (cc);
    }
