use Rattle.std.proofs.Common.{◌≤◌, IfSome, sym, subst}
use Rattle.fab_roster.specs.Roll.{Roll}
use Rattle.fab_roster.proofs.ClockLemmas.{clock_keeps}
use Rattle.fab_roster.proofs.SoundLemmas.{sound_roll}
use Rattle.fab_roster.proofs.roster.Roster.set_clock.Goals as goal

pub invariant_of-self : goal.invariant_of-self
invariant_of-self c = clock_keeps c.args.now c.self.invariant (subst (λ (r : Roll). IfSome r.tables.clock (λ t. t ≤ c.args.now)) (sym c.self.view_is) c.requires.order) c.requires.range

pub returns-clause-sound : goal.returns-clause-sound
returns-clause-sound c = sound_roll (invariant_of-self c)
