-- How many bytes the frames of a window have, and whether they go by workers.
use Rattle.std.specs.Prelude.{ℕ, Bool, ◌&&◌, ◌||◌, nat_le, nat_lt, List, length, sum_by}
use Rattle.std.specs.List.{filter}
use Rattle.pcap_file.specs.declared.Record.{Record}
use Rattle.window_records.specs.declared.shelf.Shelf.{Shelf}

abbrev pub bytes_in : List Record → ℕ
bytes_in records = sum_by (λ (r : Record). length r.caught.bytes) records

abbrev pub bytes_on : List Shelf → ℕ
bytes_on shelves = sum_by (λ (s : Shelf). bytes_in s.batch.items) shelves

-- the shelves with a record
abbrev pub busy_on : List Shelf → List Shelf
busy_on shelves = filter (λ (s : Shelf). nat_lt 0 (length s.batch.items)) shelves

-- A window goes by workers where several ports have records, and the gate may hold a worker or the frames have 64 MiB or more.
abbrev pub goes_by_workers : (holds : Bool) → List Shelf → Bool
goes_by_workers holds shelves = nat_lt 1 (length (busy_on shelves)) && (holds || nat_le 67108864 (bytes_on shelves))
