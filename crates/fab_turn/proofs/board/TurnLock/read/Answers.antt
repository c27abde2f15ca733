use Rattle.std.proofs.Common.{rules}
use Rattle.fab_turn.proofs.Seats.{not_spent}
use Rattle.fab_turn.proofs.CompareKept.{compares}
use Rattle.fab_turn.proofs.board.TurnLock.read.Goals as goal

pub load-requires : goal.load-requires
load-requires g c = (
  search rules,
  search rules,
  compares g.V.Chronicle.entries g.V.Chronicle.port_of g.V.Chronicle.grown _ _ _ _ _ (not_spent _ _ c.requires.pass.1),
)
