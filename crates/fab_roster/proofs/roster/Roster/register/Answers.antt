use Rattle.std.proofs.Common.{is_some, sym, ◌∙◌, ap}
use Rattle.ct_messages.specs.Ask.{view}
use Rattle.ct_messages.specs.Server.{after}
use Rattle.name_server.specs.Registry.{Registrations}
use Rattle.fab_roster.proofs.Entered.{entered, refusal_here, values_agree, values_change}
use Rattle.fab_roster.proofs.Found.{some_found}
use Rattle.fab_roster.proofs.Served.{none_some}
use Rattle.fab_roster.proofs.SoundLemmas.{sound_roll}
use Rattle.fab_roster.proofs.roster.Roster.register.Goals as goal

pub register-requires-clause-asker : goal.register-requires-clause-asker
register-requires-clause-asker c = let f = some_found _ c.requires.live in ap is_some (entered c.self.invariant c.self.view_is c.args.address f.0 f.1).found

pub unreachable-requires : goal.unreachable-requires
unreachable-requires c =
    let f = some_found _ c.requires.live in
    none_some _ (sym (refusal_here c.self.invariant c.self.view_is c.args.address f.0 f.1 (view c.args.ask.now) ∙ c.requires.allowed f.0 f.1) ∙ c.in_default.ensures.refused)

pub invariant_of-self : goal.invariant_of-self
invariant_of-self c =
    values_agree c.self.invariant c.register.new.self c.args.address (λ node v. after node (view c.args.ask.now) v) c.in-Ok.ensures.found (ap (λ (r : Registrations). r.room) c.in-Ok.ensures.entries) c.register.ensures.sound

pub returns-clause-change : goal.returns-clause-change
returns-clause-change c = values_change c.self.invariant c.register.new.self c.args.address (λ node v. after node (view c.args.ask.now) v) c.in-Ok.ensures.found c.self.view_is

pub returns-clause-sound : goal.returns-clause-sound
returns-clause-sound c = sound_roll (invariant_of-self c)
