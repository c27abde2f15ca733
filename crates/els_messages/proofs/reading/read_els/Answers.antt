use Rattle.std.proofs.Common.{sym, subst, ◌∙◌}
use Rattle.els_messages.specs.Els.{Els, IsEls}
use Rattle.els_messages.proofs.ElsLemmas.{decoded-is, sizes_fit, stands}
use Rattle.els_messages.proofs.reading.read_els.Goals as goal

pub returns-clause-grammar : goal.returns-clause-grammar
returns-clause-grammar c =
    let l = c.args.payload.now in
    subst (λ (v : Els). IsEls v l) (sym c.els_of.ensures) (stands l (sym c.is_short.ensures ∙ c.if-is_short.false) (sym c.lacks_pages.ensures ∙ c.if-lacks_pages.false))

pub returns-clause-exact : goal.returns-clause-exact
returns-clause-exact c = decoded-is _ c.args.payload.now (returns-clause-grammar c)

pub returns-clause-size : goal.returns-clause-size
returns-clause-size c = sizes_fit _ c.args.payload.now (returns-clause-grammar c)
