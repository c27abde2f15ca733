use Rattle.std.proofs.Common.{◌∙◌, ap, sym}
use Rattle.fab_base.specs.Fabric.{Past}
use Rattle.fab_state.proofs.ExactLemmas.{none_named, one_named}
use Rattle.fab_state.proofs.pasts.has_name.Goals as goal

pub returns-in-Some-clause-value : goal.returns-in-Some-clause-value
returns-in-Some-clause-value c = one_named c.args.past.now c.in-Some.field-0 (ap (λ (q : Past). q.name) (sym c.past.view_is) ∙ c.in-Some.is)

pub returns-in-None-clause-value : goal.returns-in-None-clause-value
returns-in-None-clause-value c = none_named c.args.past.now (ap (λ (q : Past). q.name) (sym c.past.view_is) ∙ c.in-None.is)
