-- The laws are lemmas.
use Rattle.fab_live.proofs.FromLemmas as lemmas
use Rattle.fab_live.proofs.FromLemmas.{packets_begin}
use Rattle.fab_live.proofs.from.packets_go_on.Goals as goal

pub returns : goal.returns
returns c = record { begins = packets_begin; goes_on = lemmas.packets_go_on c.runs_go_on.ensures.window c.runs_go_on.ensures.early }
