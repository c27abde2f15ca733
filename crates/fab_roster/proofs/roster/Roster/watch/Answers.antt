use Rattle.std.proofs.Common.{sym, ◌∙◌, ap}
use Rattle.state_change.specs.Watchers.{Watching}
use Rattle.fab_roster.proofs.Lookups.{login_there}
use Rattle.fab_roster.proofs.Served.{none_some, has_place, watch_agrees, watch_changes}
use Rattle.fab_roster.proofs.SoundLemmas.{sound_roll}
use Rattle.fab_roster.proofs.roster.Roster.watch.Goals as goal

pub unreachable-requires : goal.unreachable-requires
unreachable-requires c = let f = login_there c.self.inside c.self.view_is c.args.address c.requires.live in none_some f.0 (c.in_default.ensures.login ∙ f.1)

pub set-requires-clause-room : goal.set-requires-clause-room
set-requires-clause-room c = has_place c.self.invariant c.args.address c.args.function c.in-Some.login.now (sym c.in-Some.ensures.login)

pub invariant_of-self : goal.invariant_of-self
invariant_of-self c =
    watch_agrees c.self.invariant c.args.address c.args.function c.in-Some.login.now (sym c.in-Some.ensures.login) c.set.new.self c.set.ensures.found
    (ap (λ (w : Watching). w.room) c.set.ensures.watchers) c.set.ensures.sound

pub returns-clause-change : goal.returns-clause-change
returns-clause-change c =
    watch_changes c.self.invariant c.args.address c.args.function c.in-Some.login.now (sym c.in-Some.ensures.login) c.set.new.self c.set.ensures.found c.self.view_is

pub returns-clause-sound : goal.returns-clause-sound
returns-clause-sound c = sound_roll (invariant_of-self c)
