use Rattle.std.proofs.Common.{subst}
use Rattle.fab_roster.specs.Changes.{IsSoundRoll}
use Rattle.fab_roster.proofs.SoundLemmas.{sound_roll}
use Rattle.fab_roster.proofs.roster.Roster.clock.Goals as goal

pub returns-clause-sound : goal.returns-clause-sound
returns-clause-sound c = subst IsSoundRoll c.self.view_is (sound_roll c.self.invariant)
