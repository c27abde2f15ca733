-- What stands of a bridge between two frames.
use Rattle.std.specs.Prelude.{◌≡◌, ℕ, ◌+◌, ◌^◌, ◌<◌, ◌≤◌, ◌⊎◌, IsTrue, List, [], ◌∷◌, ◌++◌, length, replicate, slice_index, Some, Result, Ok, IfOk, IfErr, OnOk}
use Rattle.fab_base.specs.Ending.{end_by, Uses, HoldsSome}
use Rattle.fab_base.specs.Seen.{Seen, Nothing}
use Rattle.fab_base.specs.declared.values.Failed.{Failed}
use Rattle.pcap_file.specs.Capture.{head_bytes}
use Rattle.pcap_file.specs.declared.Record.{Record}
use Rattle.fab_base.specs.Slots.{name_of, NameIn}
use Rattle.fip_snoop.specs.Bridge.{Arrival, arrival, arrivals, handled, history, passed, dropped}
use Rattle.fip_snoop.specs.History.{History}
use Rattle.fip_snoop.specs.Queue.{least, left_in}
use Rattle.fip_snoop.specs.Snoop.{Remembers}
use Rattle.fip_snoop.specs.declared.forwarder.Forwarder.{Forwarder}
use Rattle.run_files.specs.Faults.{run_end, IsUnwritten}
use Rattle.run_files.specs.Outputs.{PutsEach}
use Rattle.run_files.specs.Pages.{items_in, piece_at}
use Rattle.run_files.specs.declared.fault.RunFault.{RunFault}
use Rattle.side_runs.specs.Copies.{records_to, capture}
use Rattle.side_runs.specs.declared.bridge.Bridge.{Bridge}
use Rattle.side_runs.specs.declared.bridge_run.Crossed.{Crossed}

-- A bridge of so many ports that handled nothing: each page has the head of a capture.
pub record IsNew (w : Forwarder) (ports : ℕ) (b : Bridge) : Type 0 where
  pub kept : Remembers w [] b.snoop
  pub places : b.places.items ≡ replicate ports 0
  pub pages : items_in b.pages.items ≡ replicate ports head_bytes
  pub passed_ : b.passed ≡ 0
  pub dropped_ : b.dropped ≡ 0

-- The next frame of all stands in the capture at a place, of each of which so many were handled.
pub record IsNext (place : ℕ) (ins : List (List Record)) (places : List ℕ) : Type 0 where
  pub count : length places ≡ length ins
  pub within : place < length ins
  pub frame_ : Arrival
  pub is : least 1 (left_in ins places) ≡ Some frame_
  pub port_ : frame_.port ≡ place + 1

-- Its record, which can be written: one more can be counted of its capture.
pub record IsFound (place : ℕ) (ins : List (List Record)) (places : List ℕ) (found : Record) : Type 0 where
  pub moment : found.moment < 2 ^ 53
  pub bytes : length found.caught.bytes ≤ 65535
  pub room : slice_index places place + 1 < 2 ^ 64
  pub next : (a : Arrival) → least 1 (left_in ins places) ≡ Some a → a.port ≡ place + 1 → a ≡ arrival (place + 1) found

-- These frames were handled, and the others of all captures are to come.
pub record Stands (w : Forwarder) (ins : List (List Record)) (done : List Arrival) (b : Bridge) : Type 0 where
  pub count : length b.places.items ≡ length ins
  pub order : done ++ arrivals (left_in ins b.places.items) ≡ arrivals ins
  pub kept : Remembers w (history w [] done) b.snoop
  pub passed_ : b.passed ≡ passed (history w [] done)
  pub dropped_ : b.dropped ≡ dropped (history w [] done)

-- what a frame adds to each page
abbrev pub Adds : Forwarder → History → Arrival → Bridge → Bridge → Type 0
Adds w L a old new = (q : ℕ) → q < length old.pages.items → piece_at (items_in new.pages.items) q ≡ piece_at (items_in old.pages.items) q ++ records_to w (q + 1) L (a ∷ [])

-- What letting a record of a port pass does behind any history.
pub record Passes (port : ℕ) (r : Record) (old new : Bridge) : Type 0 where
  pub places : new.places ≡ old.places
  pub count : length new.pages.items ≡ length old.pages.items
  pub kept : (w : Forwarder) (L : History) → Remembers w L old.snoop → Remembers w (handled w L (arrival port r) ∷ L) new.snoop
  pub passed_ : (w : Forwarder) (L : History) → Remembers w L old.snoop → new.passed ≡ passed (handled w L (arrival port r) ∷ []) + old.passed
  pub dropped_ : (w : Forwarder) (L : History) → Remembers w L old.snoop → new.dropped ≡ dropped (handled w L (arrival port r) ∷ []) + old.dropped
  pub adds : (w : Forwarder) (L : History) → Remembers w L old.snoop → Adds w L (arrival port r) old new

-- What letting the next frame pass does: it is the next of all, and each page has its record where its way leads there.
pub record PassesNext (ins : List (List Record)) (old new : Bridge) : Type 0 where
  pub count : length new.pages.items ≡ length old.pages.items
  pub next : (w : Forwarder) (done : List Arrival) → Stands w ins done old → (a : Arrival) × Stands w ins (done ++ a ∷ []) new × Adds w (history w [] done) a old new

-- What writing the pages does to the outputs: they grow by what the pages hold, and then the pages are empty.
pub record Writes (outs : List ℕ) (old new : Bridge) (a b : Seen) (result : Result (Unit {0}) Failed) : Type 0 where
  pub puts : PutsEach outs (items_in old.pages.items) a b result
  pub nothing : OnOk result ((q : ℕ) → piece_at (items_in new.pages.items) q ≡ [])
  pub count : OnOk result (length new.pages.items ≡ length old.pages.items)
  pub same : OnOk result ((new.snoop ≡ old.snoop) × (new.places ≡ old.places) × (new.passed ≡ old.passed) × (new.dropped ≡ old.dropped))

-- What writing them does where one of them is full: else nothing.
abbrev pub WritesFull : List ℕ → Bridge → Bridge → Seen → Seen → Result (Unit {0}) Failed → Type 0
WritesFull outs old new a b result = Writes outs old new a b result ⊎ ((new ≡ old) × (b ≡ a) × (result ≡ Ok tt))

-- What handling all frames does: each output holds the capture of its port, or, where it ends early, a front of it.
pub record Crosses (w : Forwarder) (ins : List (List Record)) (outs : List ℕ) (old new : Seen) (result : Result Crossed RunFault) : Type 0 where
  pub uses : Uses Nothing (NameIn old outs) (end_by run_end result) old new
  pub whole : IsTrue old.told → (q : ℕ) → q < length outs → IfOk result (λ done. new.file (name_of old outs q) ≡ Some (capture w (q + 1) (arrivals ins)))
  pub front : IsTrue old.told → (q : ℕ) → q < length outs → HoldsSome new (name_of old outs q) (capture w (q + 1) (arrivals ins))
  pub passed_ : IfOk result (λ done. done.passed ≡ passed (history w [] (arrivals ins)))
  pub dropped_ : IfOk result (λ done. done.dropped ≡ dropped (history w [] (arrivals ins)))
  pub cause : IfErr result (λ e. IsUnwritten (run_end e))
