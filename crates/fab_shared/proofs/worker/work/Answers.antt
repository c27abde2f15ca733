use Rattle.std.proofs.Common.{◌≡◌, arith, refl, sym}
use Rattle.std.proofs.lemmas.Option.{slice_get_read}
use Rattle.fab_policy.specs.Legal.{numbered_from}
use Rattle.fab_turn.specs.Lock.{own}
use Rattle.window_records.specs.Reads.{first_index}
use Rattle.fab_shared.specs.Workers.{frames_in}
use Rattle.fab_shared.proofs.EntryLemmas.{unless_refused}
use Rattle.fab_shared.proofs.worker.work.Goals as goal

pub returns-clause-done : goal.returns-clause-done
returns-clause-done g c = λ none.
    let shelf = c.index-shelves-index.result in
    let port = c.index.ensures.value in
    record {
      place = c.index.result;
      shelf = shelf;
      port_is = sym port;
      found = slice_get_read c.args.shelves.now _ c.index.result shelf refl (let within = c.requires.new.1 in omega arith) c.index-shelves-index.is;
      frames = unless_refused c.take_batch-taken.result c.is_err-worker.result (frames_in (own c.take_batch-taken.new.pass) ≡ numbered_from (first_index shelf) shelf.batch.items) c.is_err-worker.ensures.value none c.take_batch-taken.ensures.own;
    }
