use Rattle.std.proofs.Common.{◌≡◌, ◌+◌, ◌-◌, ◌≤◌, Bool, IfSome, IsTrue, length}
use Rattle.fab_pages.specs.Pages.{items_in}
use Rattle.fab_policy.specs.Journal.{Journal}
use Rattle.window_records.specs.Keeping.{IsAhead}
use Rattle.fab_policy.specs.Legal.{IsLeastOf, windows_left}
use Rattle.fab_replay.specs.Lines.{IsInside}
use Rattle.fab_replay.specs.Owed.{PagesGrow}
use Rattle.fab_replay.specs.Steps.{HoldSame, IsAlong, IsIdle, IsReached, Scene}
use Rattle.fab_replay.proofs.ticks.check_ticks.Given as goal

abbrev pub invariant-ticks : goal.invariant-ticks
invariant-ticks l = record {
  checks : (x : Scene) (J : Journal) → x.bytes ≡ l.journal → IsReached x J l.fn.fabric l.fn.place → IsLeastOf (windows_left x.settings 1 x.records J) l.window → IsAhead (l.window + 1) x.stop →
      (K : Journal) × IsReached x K l.fabric l.place × HoldSame J K × PagesGrow x.settings (length x.records) x.from J K (items_in l.fn.pages) (items_in l.pages);
  left : (x : Scene) (told : Bool) (J : Journal) → x.bytes ≡ l.journal → IsAlong x told J l.fn.fabric l.fn.place → (IsTrue told → IsLeastOf (windows_left x.settings 1 x.records J) l.window) →
      (K : Journal) × IsAlong x told K l.fabric l.place × HoldSame J K;
  inside : IsInside l.journal l.place;
  order : IfSome l.fabric.state.tables.clock (λ t. t ≤ l.window);
  settings : l.fabric.settings ≡ l.fn.fabric.settings;
  count : l.fabric.count ≡ l.fn.fabric.count;
  idle : IsIdle l.fabric;
  pages : length l.pages ≡ length l.fn.pages;
}

abbrev pub decreases-ticks : goal.decreases-ticks
decreases-ticks l = length l.journal - l.place.at
