use Rattle.fab_migrate.proofs.OldReadingLemmas.{one_reading}
use Rattle.fab_migrate.proofs.old_laws.an_old_journal_has_one_reading.Goals as goal

pub returns : goal.returns
returns c = one_reading
