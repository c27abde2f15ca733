use Rattle.std.proofs.Common.{refl}
use Rattle.fab_replay.proofs.WindowLemmas.{done_more}
use Rattle.fab_replay.proofs.frames.has_left.Goals as goal

pub returns-then-has_left_at : goal.returns-then-has_left_at
returns-then-has_left_at c = (c.ports.port, c.if-has_left_at.ensures)

pub ports-preserved : goal.ports-preserved
ports-preserved c = done_more c.args.shelves.now c.args.done.now c.ports.port _ refl c.ports.invariant c.if-has_left_at.ensures
