use Rattle.std.proofs.Common.{arith}
use Rattle.sorted_lists.proofs.OrderLemmas.{length-seen}
use Rattle.login_table.proofs.table.LoginTable.len.Goals as goal

pub overflow_cast-result : goal.overflow_cast-result
overflow_cast-result c =
    let kept = c.self.invariant in
    omega (arith, c.len.ensures, c.self.inside.by_address.ok.0, kept.sound.bound, length-seen c.self.inside.logins c.self.inside.by_address.items kept.by_address.sorted.there, kept.range)

pub returns-clause-count : goal.returns-clause-count
returns-clause-count c =
    let kept = c.self.invariant in
    rw (← c.self.view_is) (omega (arith, c.len.ensures, c.self.inside.by_address.ok.0, length-seen c.self.inside.logins c.self.inside.by_address.items kept.by_address.sorted.there))
