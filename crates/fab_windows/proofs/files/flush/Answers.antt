use Rattle.std.proofs.Common.{subst, Ok, Err}
use Rattle.run_files.specs.Pages.{items_in}
use Rattle.fab_windows.specs.Files.{Writes}
use Rattle.fab_windows.proofs.files.flush.Goals as goal

pub returns-in-Ok-clause-writes : goal.returns-in-Ok-clause-writes
returns-in-Ok-clause-writes g c =
    let seen = g.D.Depot.seen in
    subst (λ l. Writes c.args.slots.now.journal c.args.slots.now.outs.now l (items_in c.args.pages.now.records.items) (seen c.args.depot.now) (seen c.write_pages.new.depot) (Ok tt)) c.deref.ensures.value c.in-Ok.ensures.writes

pub returns-in-Err-clause-writes : goal.returns-in-Err-clause-writes
returns-in-Err-clause-writes g c =
    let seen = g.D.Depot.seen in
    let f = c.in-Err.field-0 in (
      f,
      subst (λ l. Writes c.args.slots.now.journal c.args.slots.now.outs.now l (items_in c.args.pages.now.records.items) (seen c.args.depot.now) (seen c.write_pages.new.depot) (Err f)) c.deref.ensures.value c.in-Err.ensures.writes,
    )
