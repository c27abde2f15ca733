use Rattle.fab_vectors.proofs.FilesLemmas.{adds_failed}
use Rattle.fab_vectors.proofs.files.put_page.Goals as goal

pub returns-in-Err : goal.returns-in-Err
returns-in-Err g c =
    let seen = g.D.Depot.seen in
    record { adds = adds_failed c.args.slot c.args.page.now (seen c.args.depot.now) (seen c.put_all.new.depot) c.in-Err.field-0 c.in-Err.ensures.puts }
