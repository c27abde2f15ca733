use Rattle.std.proofs.Common.{◌≡◌, ◌==◌, not, length, subst}
use Rattle.fab_policy.specs.State.{overdue}
use Rattle.fab_policy.specs.Standing.{Contents}
use Rattle.forward_core.specs.Due.{reaches}
use Rattle.forward_core.proofs.DueLemmas.{overdue_from}
use Rattle.forward_core.proofs.fabric.Fabric.overdue_from.Goals as goal

pub returns : goal.returns
returns c k =
    subst (λ (F : Contents). not (length (overdue F.settings F.state.tables k) == 0) ≡ reaches c.due.result k) c.self.view_is
    (overdue_from c.self.inside.roster c.self.inside.config c.due.result c.self.invariant.period c.due.ensures k)
