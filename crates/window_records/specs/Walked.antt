-- Captures that are read window by window: how far that came.
use Rattle.std.specs.Prelude.{◌≡◌, ℕ, IsTrue, List, length}
use Rattle.fab_config.specs.Settings.{Settings}
use Rattle.window_records.specs.Looks.{stop}
use Rattle.pcap_file.specs.declared.Record.{Record}
use Rattle.window_records.specs.First.{Start, opened_in}
use Rattle.window_records.specs.Port.{Spends}
use Rattle.window_records.specs.Ports.{Walk, slots_of, AreReady, counts_of, stop_after}
use Rattle.window_records.specs.Reads.{HaveRead}

-- Of captures that had no shelves at the start these records were taken, all in windows before one: the slots are the same, each
-- capture has a shelf that is ready for that window, records and limits add up, and, where the depot tells, the looks to come stop
-- where all looks do, counted from the first window.
pub record Walked (c : Settings) (start : Start) (w first : ℕ) (taken : List (List Record)) (walk : Walk) : Type 0 where
  pub told : walk.seen.told ≡ start.seen.told
  pub slots : slots_of walk.ins ≡ slots_of start.ins
  pub count : length walk.shelves ≡ length walk.ins
  pub ready : AreReady c w walk.ins walk.shelves walk.left
  pub read : HaveRead c w (opened_in start.seen start.ins) taken walk.ins walk.shelves walk.seen
  pub spent : Spends start.left walk.left 0 (counts_of walk.shelves)
  pub stops : IsTrue start.seen.told → stop c start.left.bytes start.left.frames (opened_in start.seen start.ins) ≡ stop_after c first walk
