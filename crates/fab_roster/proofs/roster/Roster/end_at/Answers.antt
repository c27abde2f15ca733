use Rattle.std.proofs.Common.{◌≡◌, Some, sym, ap, ◌∙◌}
use Rattle.login_table.specs.Logins.{Logins}
use Rattle.name_server.specs.Registry.{Registrations}
use Rattle.state_change.specs.Watchers.{Watching}
use Rattle.fab_roster.specs.Roll.{Roll}
use Rattle.fab_roster.specs.declared.roster.Roster.TheInside.{Inside}
use Rattle.fab_roster.proofs.EndLemmas.{AfterEnd, end_keeps, end_ends}
use Rattle.fab_roster.proofs.Lookups.{login_there}
use Rattle.fab_roster.proofs.Served.{none_some}
use Rattle.fab_roster.proofs.SoundLemmas.{sound_roll}
use Rattle.fab_roster.proofs.roster.Roster.end_at.Goals as goal

-- the tables after the end
abbrev left : (c : goal.After-forget-2) → Inside
left c = record c.self.inside { pool = c.release.new.self; logins = c.remove.new.self; voices = c.forget_voices.new.voices; registry = c.forget.new.self; watchers = c.forget-2.new.self }

after : (c : goal.After-forget-2) → AfterEnd c.args.address c.args.now c.in-Some.gone c.self.inside (left c)
after c = record {
  was = sym c.remove.ensures.login ∙ c.in-Some.is;
  limit = ap (λ (t : Logins). t.limit) c.remove.ensures.logins;
  logins = c.remove.ensures.found;
  past = c.release.ensures.pool;
  addresses = c.release.ensures.found;
  places = c.release.ensures.places;
  order = c.release.ensures.order;
  limits = c.forget_voices.ensures.limits;
  voices = c.forget_voices.ensures.last;
  entry_room = ap (λ (r : Registrations). r.room) c.forget.ensures.entries;
  entries = c.forget.ensures.found;
  watcher_room = ap (λ (w : Watching). w.room) c.forget-2.ensures.watchers;
  watchers = c.forget-2.ensures.found;
  sound_logins = c.remove.ensures.sound;
  sound_voices = c.forget_voices.ensures.sound;
  sound_entries = c.forget.ensures.sound;
  sound_watchers = c.forget-2.ensures.sound;
}

clock : (c : goal.After-forget-2) → c.self.inside.clock ≡ Some c.args.now
clock c = ap (λ (r : Roll). r.tables.clock) c.self.view_is ∙ c.requires.clock

pub invariant_of-self : goal.invariant_of-self
invariant_of-self c = end_keeps c.self.invariant (clock c) (after c)

pub returns-clause-change : goal.returns-clause-change
returns-clause-change c = end_ends c.self.invariant (clock c) (after c) c.self.view_is

pub unreachable-requires : goal.unreachable-requires
unreachable-requires c =
    let f = login_there c.self.inside c.self.view_is c.args.address c.requires.live in none_some f.0 (sym c.in_default.is ∙ (c.remove.ensures.login ∙ f.1))

pub returns-clause-sound : goal.returns-clause-sound
returns-clause-sound c = sound_roll (invariant_of-self c)
