use Rattle.std.proofs.Common.{is_some, ap}
use Rattle.name_server.specs.Registry.{Registrations}
use Rattle.fab_roster.proofs.Entered.{entered, values_agree, values_change}
use Rattle.fab_roster.proofs.Found.{some_found}
use Rattle.fab_roster.proofs.SoundLemmas.{sound_roll}
use Rattle.fab_roster.proofs.roster.Roster.set_values.Goals as goal

pub set_values-requires : goal.set_values-requires
set_values-requires c = let f = some_found _ c.requires.live in ap is_some (entered c.self.invariant c.self.view_is c.args.address f.0 f.1).found

pub invariant_of-self : goal.invariant_of-self
invariant_of-self c =
    values_agree c.self.invariant c.set_values.new.self c.args.address (λ node v. c.args.values.now) c.set_values.ensures.found (ap (λ (r : Registrations). r.room) c.set_values.ensures.entries) c.set_values.ensures.sound

pub returns-clause-change : goal.returns-clause-change
returns-clause-change c = values_change c.self.invariant c.set_values.new.self c.args.address (λ node v. c.args.values.now) c.set_values.ensures.found c.self.view_is

pub returns-clause-sound : goal.returns-clause-sound
returns-clause-sound c = sound_roll (invariant_of-self c)
