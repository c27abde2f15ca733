use Rattle.std.proofs.Common.{ℕ, ◌+◌, sym, ap}
use Rattle.fab_replay.proofs.WindowLemmas.{done_room, number_as}
use Rattle.fab_replay.proofs.frames.next_on_shelf.Goals as goal

pub returns-clause-named : goal.returns-clause-named
returns-clause-named c = record {
  place = c.index-at.result;
  is = sym c.index-at.ensures.value;
  shelf = c.in_ok-shelf.shelf.now;
  done_ = c.in_ok-place.place;
  at = record { shelf = sym c.in_ok-shelf.ensures; done_ = sym c.in_ok-place.ensures };
  record_ = sym c.in_ok-found.ensures;
  number = number_as _ c.args.port c.index-at.result c.args.index c.first_at.result _ c.in_ok-shelf.shelf.now c.in_ok-place.place c.index-at.ensures.value c.first_at.ensures (ap (λ (n : ℕ). n + c.in_ok-place.place) c.first_index.ensures.value) c.if-not-is_number.ensures;
  clock_ = c.if-is_other.ensures;
}

pub returns-clause-room : goal.returns-clause-room
returns-clause-room c =
    done_room c.args.done.now c.in_ok-shelf.shelf.now.batch.items c.in_ok-found.found.now c.index-at.result c.in_ok-place.place c.first_index.result c.args.index
    (sym c.in_ok-place.ensures) (sym c.in_ok-found.ensures) c.first_index.ensures.room c.args.port c.index-at.ensures.value
