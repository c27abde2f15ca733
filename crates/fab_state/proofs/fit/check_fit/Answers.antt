use Rattle.std.proofs.Common.{sym}
use Rattle.fab_state.proofs.FitLemmas.{fits, fitting}
use Rattle.fab_state.proofs.fit.check_fit.Goals as goal

pub returns-in-None-clause-ok : goal.returns-in-None-clause-ok
returns-in-None-clause-ok c = fits c.args.config.now c.args.ports c.args.seam.now (sym c.in-None.ensures)

pub returns-in-Some-clause-only : goal.returns-in-Some-clause-only
returns-in-Some-clause-only c h =
    let some = c.in-Some.ensures in
    let none = fitting c.args.config.now c.args.ports c.args.seam.now h in
    absurd (cc)
