-- What was read of the captures, record by record, up to a window.
use Rattle.std.specs.Prelude.{◌≡◌, ℕ, ◌+◌, ◌-◌, true, IsTrue, List, [], ◌∷◌, ◌++◌, length, map, None, option_to_list}
use Rattle.fab_base.specs.Seen.{Seen}
use Rattle.fab_config.specs.Settings.{Settings}
use Rattle.fab_policy.specs.Growing.{AreBelow}
use Rattle.window_records.specs.Looks.{Opened}
use Rattle.pcap_file.specs.Capture.{HEAD, is_whole_from}
use Rattle.pcap_file.specs.Reading.{to_come}
use Rattle.pcap_file.specs.Records.{Chain, last_moment}
use Rattle.pcap_file.specs.declared.Record.{Record}
use Rattle.window_records.specs.declared.shelf.Input.{Input}
use Rattle.window_records.specs.declared.shelf.Shelf.{Shelf}

-- These records of a port were taken, all in windows before one, and then one was looked at, or none at the end. Where the
-- depot tells, they stand one after another in the capture, before what is to come.
pub record HasRead (c : Settings) (w : ℕ) (o : Opened) (records : List Record) (i : Input) (s : Shelf) (d : Seen) : Type 0 where
  pub head : i.reader.head ≡ o.head
  pub greatest : i.reader.greatest ≡ last_moment 0 (records ++ option_to_list s.next)
  pub count : s.count ≡ length (records ++ option_to_list s.next)
  pub below : AreBelow c w records
  pub chain : IsTrue d.told → Chain o.head 0 (records ++ option_to_list s.next) o.body (to_come i.reader d i.slot)
  pub ended : IsTrue d.told → s.next ≡ None → to_come i.reader d i.slot ≡ []

-- the same of each port
abbrev pub HaveRead : Settings → ℕ → List Opened → List (List Record) → List Input → List Shelf → Seen → Type 0
HaveRead c w [] [] [] [] d = Unit {0}
HaveRead c w (o ∷ opened) (records ∷ taken) (i ∷ ins) (s ∷ shelves) d = HasRead c w o records i s d × HaveRead c w opened taken ins shelves d
HaveRead c w _ _ _ _ d = ⊥

-- the records on the shelves
abbrev pub batches_of : List Shelf → List (List Record)
batches_of shelves = map (λ s. s.batch.items) shelves

-- the number of the first record in a shelf's batch, among all of its port
abbrev pub first_index : Shelf → ℕ
first_index s = s.count - length (option_to_list s.next) - length s.batch.items

-- behind the head whole records stand, and nothing else
abbrev pub IsWhole : Opened → Type 0
IsWhole o = is_whole_from (length o.body + HEAD) o.head 0 o.body ≡ true
