use Rattle.std.proofs.Common.{◌≡◌, ◌+◌, [], ◌∷◌, length}
use Rattle.window_records.specs.Laws.{ahead_of}
use Rattle.window_records.specs.Ports.{AreReady, slots_of}
use Rattle.fabric_tests.proofs.windows.all_windows.Given as goal

abbrev pub invariant-windows : goal.invariant-windows
invariant-windows l = record {
  slots : slots_of l.ins ≡ 0 ∷ 1 ∷ [];
  count : length l.shelves ≡ length l.ins;
  ready : AreReady l.config 0 l.ins l.shelves l.budget;
}

abbrev pub decreases-windows : goal.decreases-windows
decreases-windows l = l.budget.frames + ahead_of l.shelves
