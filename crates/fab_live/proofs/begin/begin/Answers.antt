use Rattle.fab_live.specs.Files.{slots_of}
use Rattle.fab_live.proofs.HeadLemmas.{starts_none, starts_ok, starts_err}
use Rattle.fab_live.proofs.begin.begin.Goals as goal

pub returns-in_default-clause-starts : goal.returns-in_default-clause-starts
returns-in_default-clause-starts g c = starts_none c.laws_of_runs.ensures (slots_of c.args.files.now) (g.D.Depot.seen c.args.depot.now) c.requires.files c.requires.empty

pub returns-in_default-head_records-clause-starts : goal.returns-in_default-head_records-clause-starts
returns-in_default-head_records-clause-starts g c = starts_none c.laws_of_runs.ensures (slots_of c.args.files.now) (g.D.Depot.seen c.args.depot.now) c.requires.files c.requires.empty

pub returns-in_default-heads-clause-starts : goal.returns-in_default-heads-clause-starts
returns-in_default-heads-clause-starts g c = starts_none c.laws_of_runs.ensures (slots_of c.args.files.now) (g.D.Depot.seen c.args.depot.now) c.requires.files c.requires.empty

pub returns-in-Ok-write_heads-clause-starts : goal.returns-in-Ok-write_heads-clause-starts
returns-in-Ok-write_heads-clause-starts g c = starts_ok (slots_of c.args.files.now) (g.D.Depot.seen c.args.depot.now) (g.D.Depot.seen c.write_heads.new.depot) tt _ c.in-Ok-write_heads.ensures.starts

pub returns-in-Err-clause-starts : goal.returns-in-Err-clause-starts
returns-in-Err-clause-starts g c = starts_err (slots_of c.args.files.now) (g.D.Depot.seen c.args.depot.now) (g.D.Depot.seen c.write_heads.new.depot) c.in-Err.fault c.in-Err.ensures.starts
