use Rattle.fab_migrate.proofs.OldJournalLemmas.{migrated_to}
use Rattle.fab_migrate.proofs.old_laws.journals_are_migrated.Goals as goal

pub returns : goal.returns
returns c = migrated_to
