use Rattle.std.proofs.Common.{◌≡◌, ◌++◌, ◌-◌, ◌≤◌, IsTrue, length, take}
use Rattle.fab_base.proofs.whole.say_all.Given as goal

abbrev pub invariant-loop-done : goal.invariant-loop-done
invariant-loop-done g l =
    let sunk = g.K.Sink.sunk in
    record {
      told : (sunk l.say).told ≡ (sunk l.initial.say).told;
      rise : (sunk l.initial.say).faults ≤ (sunk l.say).faults;
      counts : (sunk l.say).faults ≡ (sunk l.initial.say).faults;
      bound : l.done ≤ length l.from;
      grown : IsTrue (sunk l.initial.say).told → (sunk l.say).written ≡ (sunk l.initial.say).written ++ take l.done l.from;
    }

abbrev pub decreases-loop-done : goal.decreases-loop-done
decreases-loop-done g l = length l.from - l.done
