use Rattle.std.proofs.Common.{◌∙◌}
use Rattle.ct_messages.specs.Ask.{view}
use Rattle.fab_roster.proofs.Entered.{refusal_here}
use Rattle.fab_roster.proofs.roster.Roster.refusal.Goals as goal

pub returns : goal.returns
returns c = λ p e. c.refusal.ensures.codes ∙ refusal_here c.self.invariant c.self.view_is c.args.address p e (view c.args.ask.now)
