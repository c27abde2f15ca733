use Rattle.std.proofs.Common.{ℕ, ◌<◌, IsTrue}
use Rattle.fab_base.specs.Desk.{knows}
use Rattle.fab_base.specs.Places.{name_at}
use Rattle.tool_process.proofs.edge.desk_of.Given as goal

abbrev pub invariant-loop-index : goal.invariant-loop-index
invariant-loop-index l = (k : ℕ) → k < l.index → IsTrue (knows l.desk (name_at l.words k))
