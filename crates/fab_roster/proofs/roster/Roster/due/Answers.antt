use Rattle.std.proofs.Common.{◌≡◌, ℕ, [], Option, Some, None, MatchOption, ap, sym, ◌∙◌}
use Rattle.keepalive_clock.specs.Clock.{IsFirstSilence}
use Rattle.fab_roster.specs.Changes.{IsFirstOverdue}
use Rattle.fab_roster.specs.Roll.{Roll}
use Rattle.fab_roster.proofs.Overdue.{first_overdue, nobody_overdue}
use Rattle.fab_roster.proofs.roster.Roster.due.Goals as goal

pub returns : goal.returns
returns c = go c.due.result c.due.ensures.first
  where
    go : (o : Option ℕ) → MatchOption o (c.self.inside.voices.voices ≡ []) (λ m. IsFirstSilence c.self.inside.voices m) → MatchOption o (c.args.self.now.tables.ports ≡ []) (λ m. IsFirstOverdue c.args.self.now m)
    go None none = sym (ap (λ (r : Roll). r.tables.ports) c.self.view_is) ∙ nobody_overdue c.self.invariant c.due.ensures.silent none
    go (Some m) first = first_overdue c.self.invariant c.due.ensures.silent m c.self.view_is first
