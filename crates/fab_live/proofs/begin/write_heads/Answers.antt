use Rattle.fab_live.specs.Files.{slots_of}
use Rattle.window_records.proofs.FirstLemmas.{any}
use Rattle.fab_windows.specs.Pages.{pending}
use Rattle.run_files.specs.Pages.{items_in}
use Rattle.fab_live.proofs.HeadLemmas.{live_between, starts_failed, starts_broken, starts_whole}
use Rattle.fab_live.proofs.begin.write_heads.Goals as goal

pub flush-requires-clause-files : goal.flush-requires-clause-files
flush-requires-clause-files g c =
    let seen = g.D.Depot.seen in
    (live_between c.laws_of_runs.ensures (slots_of c.args.files.now) (seen c.args.depot.now) c.requires.files c.requires.empty (items_in c.args.heads.now) c.requires.heads (seen c.put_each.new.depot) c.in-Ok.ensures.puts any).files

pub returns-in-Err-clause-starts : goal.returns-in-Err-clause-starts
returns-in-Err-clause-starts g c =
    let seen = g.D.Depot.seen in
    starts_failed c.laws_of_runs.ensures (slots_of c.args.files.now) (seen c.args.depot.now) c.requires.files c.requires.empty (items_in c.args.heads.now) c.requires.heads (seen c.put_each.new.depot) c.in-Err.field-0 any c.in-Err.ensures.puts

pub returns-in-Err-flush-clause-starts : goal.returns-in-Err-flush-clause-starts
returns-in-Err-flush-clause-starts g c =
    let seen = g.D.Depot.seen in
    let w = c.in-Err-flush.ensures.writes in
    starts_broken c.laws_of_runs.ensures (slots_of c.args.files.now) (seen c.args.depot.now) c.requires.files c.requires.empty (items_in c.args.heads.now) c.requires.heads (seen c.put_each.new.depot) any c.in-Ok.ensures.puts
    (pending c.args.pages.now) c.requires.lines c.requires.records (seen c.flush.new.depot) w.0 w.1

pub returns-in-Ok-flush-clause-starts : goal.returns-in-Ok-flush-clause-starts
returns-in-Ok-flush-clause-starts g c =
    let seen = g.D.Depot.seen in
    starts_whole c.laws_of_runs.ensures (slots_of c.args.files.now) (seen c.args.depot.now) c.requires.files c.requires.empty (items_in c.args.heads.now) c.requires.heads (seen c.put_each.new.depot) any c.in-Ok.ensures.puts
    (pending c.args.pages.now) c.requires.lines c.requires.records (seen c.flush.new.depot) c.in-Ok-flush.ensures.writes
