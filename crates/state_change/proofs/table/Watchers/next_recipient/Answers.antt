use Rattle.std.proofs.Common.{◌∙◌, ℕ, List, ap}
use Rattle.sorted_lists.specs.Orders.{seen}
use Rattle.state_change.specs.Watchers.{Watching, recipients, is_recipient, first_from}
use Rattle.state_change.proofs.WatcherLemmas.{first_from-filter}
use Rattle.state_change.proofs.table.Watchers.next_recipient.Goals as goal

pub returns-clause-first : goal.returns-clause-first
returns-clause-first c =
    c.next_recipient.ensures
    ∙ first_from-filter c.args.from (is_recipient c.args.zones.now c.args.at c.args.affected) (seen c.self.inside.watchers c.deref.result.now)
    ∙ ap (λ (l : List ℕ). first_from c.args.from (recipients c.args.zones.now c.args.at c.args.affected (seen c.self.inside.watchers l))) c.deref.ensures.value
    ∙ ap (λ (t : Watching). first_from c.args.from (recipients c.args.zones.now c.args.at c.args.affected t.watchers)) c.self.view_is
