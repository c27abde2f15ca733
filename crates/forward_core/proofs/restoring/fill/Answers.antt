use Rattle.std.proofs.Common.{subst, sym, ◌∙◌}
use Rattle.forward_core.specs.Restoring.{AddsPasts}
use Rattle.forward_core.proofs.FillLemmas.{filled, first_filled}
use Rattle.forward_core.proofs.restoring.fill.Goals as goal

pub returns-in-Some-clause-tables : goal.returns-in-Some-clause-tables
returns-in-Some-clause-tables c =
    filled c.args.seam.now c.args.roster.now c.requires.awaits c.in-Some.clock c.set_clock.new.self c.add_pasts.new.roster c.add_ports.new.roster
    (sym c.clock_of.ensures ∙ c.in-Some.is) c.set_clock.ensures.change
    (subst (λ l. AddsPasts l c.set_clock.new.self c.add_pasts.new.roster) c.past_of.ensures c.add_pasts.ensures.change) c.add_ports.ensures.change

pub returns-in_default-clause-tables : goal.returns-in_default-clause-tables
returns-in_default-clause-tables c = first_filled c.args.seam.now c.args.roster.now c.requires.awaits (sym c.clock_of.ensures ∙ c.in_default.is)
