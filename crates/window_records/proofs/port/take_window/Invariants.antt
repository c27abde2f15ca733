use Rattle.std.proofs.Common.{◌≡◌, ◌+◌, ◌*◌, length}
use Rattle.std.specs.Prelude.{option_to_list}
use Rattle.window_records.specs.Port.{Taking, port_walk_at}
use Rattle.window_records.proofs.port.take_window.Given as goal

abbrev pub invariant-records : goal.invariant-records
invariant-records g l =
    let seen = g.D.Depot.seen in
    record {
      slot : l.input.slot ≡ l.fn.input.slot;
      taking : Taking l.config l.port l.window l.fn.input.slot (port_walk_at (seen l.fn.depot) l.fn.input.reader l.fn.shelf l.fn.budget) (port_walk_at (seen l.depot) l.input.reader l.shelf l.budget);
    }

abbrev pub decreases-records : goal.decreases-records
decreases-records g l = 2 * l.budget.frames + length (option_to_list l.shelf.next)
