use Rattle.std.proofs.Common.{◌∙◌, ap, length, sym}
use Rattle.fab_vectors.proofs.CaptureLemmas.{frames_count, head_failed, capture_made, capture_failed}
use Rattle.fab_vectors.proofs.files.write_capture.Goals as goal

pub returns-in-Err-clause-adds : goal.returns-in-Err-clause-adds
returns-in-Err-clause-adds g c =
    let seen = g.D.Depot.seen in
    head_failed c.args.number c.args.port c.args.slot (seen c.args.depot.now) (seen c.put_head.new.depot) c.in-Err.fault c.in-Err.ensures.adds

pub returns-in-Ok-put_pages-clause-adds : goal.returns-in-Ok-put_pages-clause-adds
returns-in-Ok-put_pages-clause-adds g c =
    let seen = g.D.Depot.seen in
    capture_made c.args.number c.args.port c.args.slot (seen c.args.depot.now) (seen c.put_head.new.depot) (seen c.put_pages.new.depot) c.requires.output c.in-Ok-put_head.ensures.adds c.deref.result.now
    (c.deref.ensures.value ∙ c.in-Ok.ensures) c.len.result c.in-Ok-put_pages.ensures.adds

pub returns-in-Ok-put_pages-clause-count : goal.returns-in-Ok-put_pages-clause-count
returns-in-Ok-put_pages-clause-count g c =
    c.len.ensures ∙ sym c.deref.ensures.len ∙ ap length (c.deref.ensures.value ∙ c.in-Ok.ensures) ∙ frames_count c.args.number c.args.port

pub returns-clause-adds : goal.returns-clause-adds
returns-clause-adds g c =
    let seen = g.D.Depot.seen in
    capture_failed c.args.number c.args.port c.args.slot (seen c.args.depot.now) (seen c.put_head.new.depot) (seen c.put_pages.new.depot) c.requires.output c.in-Ok-put_head.ensures.adds c.deref.result.now
    (c.deref.ensures.value ∙ c.in-Ok.ensures) c.in-Err-put_pages.fault c.in-Err-put_pages.ensures.adds
