use Rattle.fab_replay.proofs.EndLemmas.{end_case}
use Rattle.fab_replay.proofs.check.is_end.Goals as goal

pub returns : goal.returns
returns c = end_case c.args.journal.now c.args.place.now.at c.requires.inside.within
