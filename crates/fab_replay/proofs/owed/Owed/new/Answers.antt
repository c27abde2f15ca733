use Rattle.fab_replay.proofs.OwedLemmas.{new_owed}
use Rattle.fab_replay.proofs.owed.Owed.new.Goals as goal

pub returns : goal.returns
returns c = new_owed c.args.count c.in_ok-pages.pages c.in_ok-all.all c.in_ok-pages.ensures.heads c.in_ok-pages.ensures.count c.in_ok-all.ensures.count c.in_ok-all.ensures.fresh
