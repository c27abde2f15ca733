use Rattle.std.proofs.Common.{◌≡◌, ◌+◌, ◌++◌}
use Rattle.fab_vectors.specs.Load.{data_frame}
use Rattle.fab_vectors.specs.Names.{numbered}
use Rattle.fab_vectors.proofs.plan.add_data.Given as goal

abbrev pub invariant-loop : goal.invariant-loop
invariant-loop l =
    let old = l.fn.draws in
    record {
      frames : l.frames.items ≡ l.fn.frames.items ++ numbered (data_frame old.number old.port) old.turn l.counter;
      number : l.draws.number ≡ old.number;
      port : l.draws.port ≡ old.port;
      turn : l.draws.turn ≡ l.counter + old.turn;
    }
