use Rattle.std.proofs.Common.{◌∙◌, ap, Some}
use Rattle.fab_base.proofs.KnowLemmas.{stored_learns, stored_file}
use Rattle.fab_base.proofs.mem_depot.MemDepot.store.Goals as goal

pub returns-clause-ok : goal.returns-clause-ok
returns-clause-ok c =
    let e = c.in_ok-place.ensures in
    let d = c.place_or_new.new.self in
    stored_learns c.args.name.now _ d.desk d.contents.items c.in_ok-place.place c.in_ok-bytes.bytes e.place.0 e.learns e.place.1

pub returns-clause-file : goal.returns-clause-file
returns-clause-file c =
    let e = c.in_ok-place.ensures in
    let d = c.place_or_new.new.self in
    stored_file c.args.name.now _ d.desk d.contents.items c.in_ok-place.place c.in_ok-bytes.bytes e.place.0 e.learns e.place.1 ∙ ap Some c.in_ok-bytes.ensures.items
