use Rattle.fab_turn.specs.Lock.{Moved}
use Rattle.fab_turn.proofs.board.TurnLock.wait_for_pause.Given as goal

-- nothing changed
abbrev pub invariant-loop-looks : goal.invariant-loop-looks
invariant-loop-looks g l = Moved l.fn.pass l.pass l.fn.pass.seat.me
