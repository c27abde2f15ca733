-- The records of a window, taken of one port's capture.
use Rattle.std.specs.Prelude.{◌≡◌, ◌≢◌, ℕ, ◌+◌, ◌-◌, ◌*◌, ◌^◌, ◌≤◌, ◌<◌, ◌⊎◌, Bool, false, IsTrue, List, [], ◌∷◌, ◌++◌, length, Option, Some, None, IfSome, Result, OnOk, OnErr, IfErr, option_to_list, nat_lt, ◌==◌}
use Rattle.fab_base.specs.Ending.{Said, end_by, Uses}
use Rattle.fab_base.specs.Seen.{Seen, Nothing, Only}
use Rattle.fab_config.specs.Settings.{Settings}
use Rattle.fab_policy.specs.Legal.{window_start}
use Rattle.window_records.specs.Looks.{Spot, Look, looks, stop_in, Stop, Reason, Fails, Span, MOST_SPAN}
use Rattle.pcap_file.specs.Capture.{RECORD_HEAD}
use Rattle.pcap_file.specs.Reading.{Reading, to_come, error_of, place_after}
use Rattle.pcap_file.specs.Records.{Chain, last_moment}
use Rattle.pcap_file.specs.declared.Budget.{Budget}
use Rattle.pcap_file.specs.declared.CapError.{CapError}
use Rattle.pcap_file.specs.declared.Record.{Record}
use Rattle.pcap_file.specs.Faults.{fault_by, gather_end, IsStopped}
use Rattle.window_records.specs.declared.shelf.Input.{Input}
use Rattle.window_records.specs.declared.shelf.Shelf.{Shelf}
use Rattle.pcap_file.specs.declared.fault.LimitKind.TheVariants as limit
use Rattle.pcap_file.specs.declared.fault.GatherFault.{GatherFault}
use Rattle.pcap_file.specs.declared.fault.GatherFault.TheVariants as fault

-- ---- endings

-- what a stop ends the reading with: what the reader's error there does, or the limit of the span
abbrev pub ending_of : Reason → ℕ → ℕ → GatherFault
ending_of (Fails why) port at = fault_by (error_of why at) port
ending_of Span port at = fault.Limit limit.Span

abbrev pub ending : Stop → GatherFault
ending s = ending_of s.why s.port s.at

-- ---- a port

-- where the reading of a capture stands, after so many records, the last of them in this window
abbrev pub spot_of : Seen → ℕ → Reading → ℕ → Option ℕ → Spot
spot_of d slot r count window = record { head = r.head; index = count; at = r.at; window = window; greatest = r.greatest; bytes = to_come r d slot }

-- the looks to come of a port; none behind the end of its capture
abbrev pub to_look : Settings → ℕ → Seen → ℕ → Reading → ℕ → Option Record → List Look
to_look c port d slot r count None = []
to_look c port d slot r count (Some x) = looks c port (spot_of d slot r count (Some (window_start c x.moment)))

-- the place of a capture behind records that stand next at a place
abbrev pub place_behind : ℕ → List Record → ℕ
place_behind at [] = at
place_behind at (r ∷ records) = place_behind (place_after at (RECORD_HEAD + length r.caught.bytes)) records

-- a reader keeps the error that is told by this fault of a port, and answers it from then on
abbrev pub KeepsFault : ℕ → Reading → GatherFault → Type 0
KeepsFault port r e = (x : CapError) × (r.kept ≡ Some x) × (fault_by x port ≡ e)

-- What stands for a port's reader and shelf while no look failed: the record that was looked at last is the last that was
-- found, and counts don't come to their types' ends.
pub record IsReady (r : Reading) (ahead : Option Record) (found : ℕ) (budget : Budget) : Type 0 where
  pub fresh : r.kept ≡ None
  pub last : IfSome ahead (λ x. r.greatest ≡ x.moment)
  pub early : IfSome ahead (λ x. x.moment < 2 ^ 43)
  pub few : found + budget.frames < 2 ^ 64

-- What records take of the limits, of which so many were found before and so many now.
pub record Spends (had left : Budget) (before now : ℕ) : Type 0 where
  pub frames : left.frames + now ≡ had.frames + before
  pub bytes : left.bytes + RECORD_HEAD * now ≤ had.bytes + RECORD_HEAD * before

-- looks of a port in a window
abbrev pub AreOf : ℕ → ℕ → List Look → Type 0
AreOf port w [] = Unit {0}
AreOf port w (x ∷ made) = (x.port ≡ port) × (x.window ≡ Some w) × AreOf port w made

-- These looks pass, whatever comes behind them, unless their window is too late.
abbrev pub Pass : ℕ → List Look → Budget → Budget → Type 0
Pass w made had left = (first : ℕ) (rest : List Look) → nat_lt MOST_SPAN (w - first) ≡ false → stop_in first had.bytes had.frames (made ++ rest) ≡ stop_in first left.bytes left.frames rest

-- a record is there and belongs to a window
abbrev pub is_in : Settings → Option Record → ℕ → Bool
is_in c None w = false
is_in c (Some r) w = window_start c r.moment == w

-- records of a window
abbrev pub AreIn : Settings → ℕ → List Record → Type 0
AreIn c w [] = Unit {0}
AreIn c w (r ∷ records) = (window_start c r.moment ≡ w) × AreIn c w records

-- where the reading of a port's capture stands: the store, the reader, the shelf, and what is left of the limits
pub record PortWalk : Type 0 where
  pub seen : Seen
  pub reader : Reading
  pub shelf : Shelf
  pub left : Budget

abbrev pub port_walk_at : Seen → Reading → Shelf → Budget → PortWalk
port_walk_at seen reader shelf left = record { seen = seen; reader = reader; shelf = shelf; left = left }

-- the looks to come of a port there
abbrev pub looks_from : Settings → ℕ → ℕ → PortWalk → List Look
looks_from c port slot at = to_look c port at.seen slot at.reader at.shelf.count at.shelf.next

-- the bytes to come of its capture
abbrev pub bytes_from : ℕ → PortWalk → List ℕ
bytes_from slot at = to_come at.reader at.seen slot

-- What stands while the records of a window are taken of one port: which are on the shelf, which the reader gave, and which
-- looks were made.
pub record Taking (c : Settings) (port w slot : ℕ) (old new : PortWalk) : Type 0 where
  pub uses : Uses (Only (old.seen.name slot)) Nothing Said old.seen new.seen
  pub ready : IsReady new.reader new.shelf.next new.shelf.count new.left
  pub spent : Spends old.left new.left old.shelf.count new.shelf.count
  pub in_window : AreIn c w new.shelf.batch.items
  pub given : List Record
  pub order : option_to_list old.shelf.next ++ given ≡ new.shelf.batch.items ++ option_to_list new.shelf.next
  pub count : new.shelf.count ≡ old.shelf.count + length given
  pub head : new.reader.head ≡ old.reader.head
  pub greatest : new.reader.greatest ≡ last_moment old.reader.greatest given
  pub at : new.reader.at ≡ place_behind old.reader.at given
  pub chain : IsTrue old.seen.told → Chain old.reader.head old.reader.greatest given (bytes_from slot old) (bytes_from slot new)
  pub still : old.shelf.next ≡ None → new.shelf.next ≡ None
  pub onward : old.reader.greatest ≤ new.reader.greatest
  pub ended : IsTrue old.seen.told → old.shelf.next ≢ None → new.shelf.next ≡ None → bytes_from slot new ≡ []
  pub looks : IsTrue old.seen.told → (made : List Look) × (looks_from c port slot old ≡ made ++ looks_from c port slot new) × AreOf port w made × Pass w made old.left new.left

-- The looks come to one that fails, and the ending says so.
pub record StopsIn (port w : ℕ) (had : Budget) (looks : List Look) (e : GatherFault) : Type 0 where
  pub made : List Look
  pub failing : Look
  pub behind : List Look
  pub are : looks ≡ made ++ failing ∷ behind
  pub before : AreOf port w made
  pub at : (failing.port ≡ port) × (failing.window ≡ Some w)
  pub says : (first : ℕ) (rest : List Look) → nat_lt MOST_SPAN (w - first) ≡ false →
      (s : Stop) × (stop_in first had.bytes had.frames (made ++ failing ∷ rest) ≡ Some s) × (ending s ≡ e) × (s.window ≡ Some w)

-- These records a reader gave, however it ended: they stand next in its capture, and what is to come stands behind them. Where it
-- keeps an error, what it fetched behind them may be lost.
pub record Gave (slot : ℕ) (a b : Seen) (r r' : Reading) (given : List Record) : Type 0 where
  pub head : r'.head ≡ r.head
  pub greatest : r'.greatest ≡ last_moment r.greatest given
  pub at : r'.at ≡ place_behind r.at given
  pub rest : List ℕ
  pub chain : IsTrue a.told → Chain r.head r.greatest given (to_come r a slot) rest
  pub stands : IsTrue a.told → r'.kept ≡ None → rest ≡ to_come r' b slot

-- A shelf has records of the window, those that were there to take; the last of them may be lost where memory is refused.
pub record HasSome (c : Settings) (w : ℕ) (given : List Record) (s s' : Shelf) : Type 0 where
  pub in_window : AreIn c w s'.batch.items
  pub lost : List Record
  pub order : option_to_list s.next ++ given ≡ s'.batch.items ++ lost ++ option_to_list s'.next
  pub last : length lost ≤ 1

-- what stands of a port: the store, its capture, and its shelf
pub record PortStand : Type 0 where
  pub seen : Seen
  pub input : Input
  pub shelf : Shelf

abbrev pub stand_at : Seen → Input → Shelf → PortStand
stand_at seen input shelf = record { seen = seen; input = input; shelf = shelf }

-- What a refusal leaves of one port: its reader gave some records, which are counted, and its shelf is as it was, or has those of
-- the window that came first.
pub record LeavesPort (c : Settings) (w : ℕ) (old new : PortStand) : Type 0 where
  pub given : List Record
  pub gave : Gave old.input.slot old.seen new.seen old.input.reader new.input.reader given
  pub count : new.shelf.count ≡ old.shelf.count + length given
  pub shelf : ((new.shelf ≡ old.shelf) × (given ≡ [])) ⊎ HasSome c w given old.shelf new.shelf

-- a port there, with its slot
abbrev pub port_stand : ℕ → PortWalk → PortStand
port_stand slot at = record { seen = at.seen; input = record { slot = slot; reader = at.reader }; shelf = at.shelf }

-- What taking the records of a window of one port does.
pub record TakesWindow (c : Settings) (port w slot : ℕ) (old new : PortWalk) (result : Result (Unit {0}) GatherFault) : Type 0 where
  pub uses : Uses (Only (old.seen.name slot)) Nothing (end_by gather_end result) old.seen new.seen
  pub taking : OnOk result (Taking c port w slot old new)
  pub beyond : OnOk result (IfSome new.shelf.next (λ x. window_start c x.moment ≢ w))
  pub stops : IsTrue old.seen.told → IfErr result (λ e. IsStopped e → StopsIn port w old.left (looks_from c port slot old) e)
  pub leaves : OnErr result (LeavesPort c w (port_stand slot old) (port_stand slot new) × Spends old.left new.left old.shelf.count new.shelf.count)
  pub in_span : IfErr result (λ e. e ≢ fault.Limit limit.Span)
  pub fails : IfErr result (λ e. e ≢ fault.Memory → KeepsFault port new.reader e)
