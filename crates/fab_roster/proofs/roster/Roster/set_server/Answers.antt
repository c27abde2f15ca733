use Rattle.std.proofs.Common.{ap}
use Rattle.login_table.specs.Logins.{Logins}
use Rattle.fab_roster.proofs.Served.{server_agrees, server_changes}
use Rattle.fab_roster.proofs.SoundLemmas.{sound_roll}
use Rattle.fab_roster.proofs.roster.Roster.set_server.Goals as goal

pub invariant_of-self : goal.invariant_of-self
invariant_of-self c =
    server_agrees c.self.inside c.set_server.new.self c.args.address c.args.size c.set_server.ensures.found c.self.invariant (ap (λ (s : Logins). s.limit) c.set_server.ensures.logins) c.set_server.ensures.sound c.requires.size

pub returns-clause-change : goal.returns-clause-change
returns-clause-change c = server_changes c.self.inside c.set_server.new.self c.args.address c.args.size c.set_server.ensures.found c.self.view_is

pub returns-clause-sound : goal.returns-clause-sound
returns-clause-sound c = sound_roll (invariant_of-self c)
