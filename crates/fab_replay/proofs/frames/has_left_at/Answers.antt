use Rattle.std.proofs.Common.{sym}
use Rattle.fab_replay.proofs.WindowLemmas.{left_case}
use Rattle.fab_replay.proofs.frames.has_left_at.Goals as goal

pub returns : goal.returns
returns c = left_case c.args.shelves.now c.args.done.now c.args.port c.in-Some-Some.shelf.now c.in-Some-Some.count c.size_of.result (sym c.in-Some-Some.ensures) (sym c.in-Some-Some.ensures') c.size_of.ensures
