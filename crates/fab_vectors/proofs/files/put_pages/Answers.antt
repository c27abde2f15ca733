use Rattle.std.proofs.Common.{sym}
use Rattle.fab_vectors.specs.Load.{record_of}
use Rattle.fab_vectors.proofs.FilesLemmas.{adds_refused, going_more, going_failed}
use Rattle.fab_vectors.proofs.files.put_pages.Goals as goal

pub returns-in-Err : goal.returns-in-Err
returns-in-Err g c =
    let seen = g.D.Depot.seen in
    record {
      adds = going_failed (record_of c.args.port) c.args.slot c.args.frames.now c.loop-rest.rest.now (seen c.args.depot.now) (seen c.loop-rest.depot) (seen c.loop-rest.depot) c.requires.output c.loop-rest.invariant
          _ c.split_at.result.0.now c.split_at.result.1.now (sym c.split_at.ensures.by_index.0) (adds_refused _ _ _);
    }

pub returns-in-Err-put_page : goal.returns-in-Err-put_page
returns-in-Err-put_page g c =
    let seen = g.D.Depot.seen in
    record {
      adds = going_failed (record_of c.args.port) c.args.slot c.args.frames.now c.loop-rest.rest.now (seen c.args.depot.now) (seen c.loop-rest.depot) (seen c.put_page.new.depot) c.requires.output c.loop-rest.invariant
          c.in-Err-put_page.fault c.split_at.result.0.now c.split_at.result.1.now (sym c.split_at.ensures.by_index.0) (rw (c.deref.ensures.value, c.in-Ok.ensures) at c.in-Err-put_page.ensures.adds);
    }

pub loop-rest-preserved : goal.loop-rest-preserved
loop-rest-preserved g c =
    let seen = g.D.Depot.seen in
    going_more (record_of c.args.port) c.args.slot c.args.frames.now c.loop-rest.rest.now (seen c.args.depot.now) (seen c.loop-rest.depot) (seen c.put_page.new.depot) c.requires.output c.loop-rest.invariant
    c.split_at.result.0.now c.split_at.result.1.now (sym c.split_at.ensures.by_index.0) (rw (c.deref.ensures.value, c.in-Ok.ensures) at c.in-Ok-put_page.ensures.adds)
