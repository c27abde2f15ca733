use Rattle.fab_migrate.proofs.whole.read_whole.Goals as goal

pub returns-in-Err-clause-reads : goal.returns-in-Err-clause-reads
returns-in-Err-clause-reads g c = (c.in-Err.error, c.old_error_of.ensures, c.in-Err.ensures.reads)
