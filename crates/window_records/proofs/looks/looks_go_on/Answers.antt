use Rattle.window_records.proofs.LooksLemmas.{looks_found, looks_end}
use Rattle.window_records.proofs.looks.looks_go_on.Goals as goal

pub returns : goal.returns
returns c = record { found = looks_found; end = looks_end }
