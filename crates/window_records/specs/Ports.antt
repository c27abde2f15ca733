-- The records of a window, taken of all ports in their order.
use Rattle.std.specs.Prelude.{◌≡◌, ℕ, ◌+◌, ◌≤◌, ◌<◌, IsTrue, List, [], ◌∷◌, ◌++◌, length, map, Option, Some, None, IfSome, option_to_list, slice_get}
use Rattle.fab_base.specs.Seen.{Seen}
use Rattle.fab_base.specs.Slots.{slot_at, name_of}
use Rattle.fab_config.specs.Settings.{Settings}
use Rattle.fab_policy.specs.Legal.{window_start}
use Rattle.window_records.specs.Looks.{Look, in_order, stop_in, Stop}
use Rattle.pcap_file.specs.Reading.{to_come}
use Rattle.pcap_file.specs.Records.{Chain, last_moment}
use Rattle.pcap_file.specs.declared.Budget.{Budget}
use Rattle.pcap_file.specs.declared.Record.{Record}
use Rattle.pcap_file.specs.declared.fault.GatherFault.{GatherFault}
use Rattle.window_records.specs.declared.shelf.Input.{Input}
use Rattle.window_records.specs.declared.shelf.Shelf.{Shelf}
use Rattle.window_records.specs.Port.{IsReady, AreIn, KeepsFault, place_behind, to_look, PortStand, stand_at, LeavesPort}

-- ---- slots

abbrev pub slots_of : List Input → List ℕ
slots_of ins = map (λ i. i.slot) ins

-- slots that are open inputs of different names
pub record AreInputs (d : Seen) (slots : List ℕ) : Type 0 where
  pub inputs : (q : ℕ) → q < length slots → IsTrue (d.input (slot_at slots q))
  pub differ : (p q : ℕ) → p < length slots → q < length slots → name_of d slots p ≡ name_of d slots q → p ≡ q

-- the reader of some port keeps the error that this fault tells, and answers it from then on
abbrev pub OneKeeps : List Input → GatherFault → Type 0
OneKeeps ins e = (q : ℕ) × (i : Input) × (slice_get ins q ≡ Some i) × KeepsFault (q + 1) i.reader e

-- What captures and limits are after they were read, however that ended: the same slots, and no more of each limit.
pub record TakesFrom (ins ins' : List Input) (had left : Budget) : Type 0 where
  pub slots : slots_of ins' ≡ slots_of ins
  pub bytes : left.bytes ≤ had.bytes
  pub frames : left.frames ≤ had.frames

-- ---- the looks to come

-- those of each port, from port p on
abbrev pub rests : Settings → ℕ → Seen → List Input → List Shelf → List (List Look)
rests c p d [] shelves = []
rests c p d (i ∷ ins) [] = []
rests c p d (i ∷ ins) (s ∷ shelves) = to_look c p d i.slot i.reader s.count s.next ∷ rests c (p + 1) d ins shelves

abbrev pub joined : List (List Look) → List Look
joined [] = []
joined (l ∷ ls) = l ++ joined ls

-- where they stop, with what is left of the limits
abbrev pub stop_from : Settings → ℕ → Seen → List Input → List Shelf → Budget → Option Stop
stop_from c first d ins shelves budget = stop_in first budget.bytes budget.frames (in_order (joined (rests c 1 d ins shelves)))

-- ---- a window

-- a port and its shelf, by their place
pub record At (q : ℕ) (ins : List Input) (shelves : List Shelf) (i : Input) (s : Shelf) : Type 0 where
  pub input : slice_get ins q ≡ Some i
  pub shelf : slice_get shelves q ≡ Some s

-- each port is ready, and no record that was looked at lies before a window
abbrev pub AreReady : Settings → ℕ → List Input → List Shelf → Budget → Type 0
AreReady c w ins shelves budget = (q : ℕ) (i : Input) (s : Shelf) → At q ins shelves i s → IsReady i.reader s.next s.count budget × IfSome s.next (λ x. w ≤ window_start c x.moment)

-- how many records were found of all ports
abbrev pub counts_of : List Shelf → ℕ
counts_of [] = 0
counts_of (s ∷ shelves) = s.count + counts_of shelves

-- where the reading of captures stands: the store, the captures, their shelves, and what is left of the limits
pub record Walk : Type 0 where
  pub seen : Seen
  pub ins : List Input
  pub shelves : List Shelf
  pub left : Budget

abbrev pub walk_at : Seen → List Input → List Shelf → Budget → Walk
walk_at seen ins shelves left = record { seen = seen; ins = ins; shelves = shelves; left = left }

-- What a port's shelf and reader are after a window: the shelf has the records of the window, and the reader gave these.
pub record Took (c : Settings) (w : ℕ) (old new : PortStand) : Type 0 where
  pub slot : new.input.slot ≡ old.input.slot
  pub in_window : AreIn c w new.shelf.batch.items
  pub given : List Record
  pub order : option_to_list old.shelf.next ++ given ≡ new.shelf.batch.items ++ option_to_list new.shelf.next
  pub count : new.shelf.count ≡ old.shelf.count + length given
  pub head : new.input.reader.head ≡ old.input.reader.head
  pub greatest : new.input.reader.greatest ≡ last_moment old.input.reader.greatest given
  pub at : new.input.reader.at ≡ place_behind old.input.reader.at given
  pub chain : IsTrue old.seen.told →
      Chain old.input.reader.head old.input.reader.greatest given (to_come old.input.reader old.seen old.input.slot) (to_come new.input.reader new.seen old.input.slot)
  pub ended : IsTrue old.seen.told → (old.shelf.next ≡ None → to_come old.input.reader old.seen old.input.slot ≡ []) → new.shelf.next ≡ None → to_come new.input.reader new.seen old.input.slot ≡ []

abbrev pub TookAll : Settings → ℕ → Walk → Walk → Type 0
TookAll c w old new =
    (q : ℕ) (i i' : Input) (s s' : Shelf) → At q old.ins old.shelves i s → At q new.ins new.shelves i' s' → Took c w (stand_at old.seen i s) (stand_at new.seen i' s')

-- What a refusal leaves of each port.
abbrev pub LeavesAll : Settings → ℕ → Walk → Walk → Type 0
LeavesAll c w old new =
    (q : ℕ) (i i' : Input) (s s' : Shelf) → At q old.ins old.shelves i s → At q new.ins new.shelves i' s'
    → (i'.slot ≡ i.slot) × LeavesPort c w (stand_at old.seen i s) (stand_at new.seen i' s')

-- where the looks to come stop, from there on
abbrev pub stop_after : Settings → ℕ → Walk → Option Stop
stop_after c first at = stop_from c first at.seen at.ins at.shelves at.left
