use Rattle.std.proofs.Common.{◌≤◌, ◌≡◌, Some, sym, subst, unwrap_or}
use Rattle.fab_base.specs.Fabric.{past_at}
use Rattle.fc_addresses.specs.Pool.{never_had}
use Rattle.fab_policy.specs.State.{now_of}
use Rattle.fab_roster.specs.Roll.{Roll}
use Rattle.fab_roster.proofs.RestoreLemmas.{had_agrees, had_changes}
use Rattle.fab_roster.proofs.SoundLemmas.{sound_roll}
use Rattle.fab_roster.proofs.roster.Roster.had.Goals as goal

never : (c : goal.After-had) → past_at c.args.address c.self.inside.pool ≡ Some (never_had c.args.address)
never c = subst (λ (r : Roll). past_at c.args.address r.tables.past ≡ Some (never_had c.args.address)) (sym c.self.view_is) c.requires.unused

pub invariant_of-self : goal.invariant_of-self
invariant_of-self c =
    let by = subst (λ (r : Roll). c.args.end ≤ now_of r.tables) (sym c.self.view_is) c.requires.order in
    had_agrees c.self.invariant c.args.address c.args.name c.args.end c.had.new.self (never c) c.had.ensures.found c.had.ensures.places
    (c.had.ensures.order (unwrap_or c.self.inside.clock 0) by c.self.invariant.pool.ended)

pub returns-clause-change : goal.returns-clause-change
returns-clause-change c = had_changes c.self.inside c.args.address c.args.name c.args.end c.had.new.self c.self.view_is c.had.ensures.found c.had.ensures.places

pub returns-clause-sound : goal.returns-clause-sound
returns-clause-sound c = sound_roll (invariant_of-self c)
