use Rattle.fab_turn.proofs.Joining.{join_begins}
use Rattle.fab_turn.proofs.board.TurnLock.join.Goals as goal

pub returns-clause-begins : goal.returns-clause-begins
returns-clause-begins g c = join_begins c.args.root.now c.take_in.new.root c.compare.new.root c.args.pass c.take_in.ensures c.compare.ensures.same c.compare.ensures.met
