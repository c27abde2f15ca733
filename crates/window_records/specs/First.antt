-- The looks at the first records, and which window comes next.
use Rattle.std.specs.Prelude.{◌≡◌, ◌≢◌, ℕ, ◌≤◌, IsTrue, List, [], ◌∷◌, length, map, Option, Some, None, IfSome, Result, IfOk, OnErr, IfErr, option_to_list, slice_get, Vec}
use Rattle.std.specs.declared.alloc.Global.{Global}
use Rattle.fab_base.specs.Ending.{end_by, Uses}
use Rattle.fab_base.specs.Seen.{Seen, Nothing, Only}
use Rattle.fab_config.specs.Settings.{Settings}
use Rattle.fab_policy.specs.Legal.{window_start}
use Rattle.window_records.specs.Looks.{Opened, Look, look_at, looks, first_spot, in_order, first_window, stop_in, Stop, stop}
use Rattle.pcap_file.specs.Capture.{HEAD}
use Rattle.pcap_file.specs.Reading.{Reading, to_come, ReaderStand}
use Rattle.pcap_file.specs.Records.{Chain, last_moment}
use Rattle.pcap_file.specs.declared.Budget.{Budget}
use Rattle.pcap_file.specs.declared.Record.{Record}
use Rattle.window_records.specs.declared.shelf.Input.{Input}
use Rattle.window_records.specs.declared.shelf.Shelf.{Shelf}
use Rattle.pcap_file.specs.declared.fault.GatherFault.{GatherFault}
use Rattle.pcap_file.specs.declared.fault.GatherFault.TheVariants as fault
use Rattle.pcap_file.specs.Faults.{gather_end, IsStopped}
use Rattle.window_records.specs.Port.{IsReady, Spends, Gave, KeepsFault, place_behind, to_look, ending}
use Rattle.fab_base.specs.Slots.{NameIn}
use Rattle.window_records.specs.Ports.{OneKeeps, slots_of, TakesFrom, rests, joined, stop_from, AreReady, counts_of}
use Rattle.window_records.specs.Reads.{HaveRead}

-- ---- the captures that are handed in

-- a reader is as it was opened
pub record IsFresh (r : Reading) : Type 0 where
  pub at : r.at ≡ HEAD
  pub greatest : r.greatest ≡ 0
  pub kept : r.kept ≡ None

abbrev pub AreFresh : List Input → Type 0
AreFresh [] = Unit {0}
AreFresh (i ∷ ins) = IsFresh i.reader × AreFresh ins

-- the head that was read, and what is still to come behind it
abbrev pub opened_by : Seen → ℕ → Reading → Opened
opened_by d slot r = record { head = r.head; body = to_come r d slot }

abbrev pub opened_in : Seen → List Input → List Opened
opened_in d ins = map (λ i. opened_by d i.slot i.reader) ins

-- ---- the first looks

-- the look at the first record of a port
abbrev pub first_look : ℕ → Opened → Look
first_look port o = look_at port (first_spot o)

-- the bytes to come of the capture
abbrev pub bytes_at : ℕ → ReaderStand → List ℕ
bytes_at slot at = to_come at.reader at.depot slot

-- its head, and the bytes behind that
abbrev pub opened_at : ℕ → ReaderStand → Opened
opened_at slot at = opened_by at.depot slot at.reader

-- What a fresh reader and a shelf are after the look at the first record: it passed, and the shelf has what was found.
pub record Looked (c : Settings) (port slot : ℕ) (old new : ReaderStand) (s : Shelf) : Type 0 where
  pub ready : IsReady new.reader s.next s.count new.budget
  pub spent : Spends old.budget new.budget 0 s.count
  pub count : s.count ≡ length (option_to_list s.next)
  pub head : new.reader.head ≡ old.reader.head
  pub greatest : new.reader.greatest ≡ last_moment 0 (option_to_list s.next)
  pub at : new.reader.at ≡ place_behind old.reader.at (option_to_list s.next)
  pub chain : IsTrue old.depot.told → Chain old.reader.head 0 (option_to_list s.next) (bytes_at slot old) (bytes_at slot new)
  pub ended : IsTrue old.depot.told → s.next ≡ None → bytes_at slot new ≡ []
  pub looks_ : IsTrue old.depot.told → looks c port (first_spot (opened_at slot old)) ≡ first_look port (opened_at slot old) ∷ to_look c port new.depot slot new.reader s.count s.next
  pub passes : IsTrue old.depot.told →
      (first : ℕ) (rest : List Look) → stop_in first old.budget.bytes old.budget.frames (first_look port (opened_at slot old) ∷ rest) ≡ stop_in first new.budget.bytes new.budget.frames rest

-- The first look of a port fails, and the ending says so.
pub record StopsFirst (c : Settings) (port : ℕ) (o : Opened) (had : Budget) (e : GatherFault) : Type 0 where
  pub behind : List Look
  pub are : looks c port (first_spot o) ≡ first_look port o ∷ behind
  pub says : (first : ℕ) (rest : List Look) → (s : Stop) × (stop_in first had.bytes had.frames (first_look port o ∷ rest) ≡ Some s) × (ending s ≡ e) × (s.window ≡ None)

-- What a refusal leaves of each port: its reader gave the first record, or none.
pub record LeavesFirst (a b : Seen) (i i' : Input) : Type 0 where
  pub slot : i'.slot ≡ i.slot
  pub given : Option Record
  pub gave : Gave i.slot a b i.reader i'.reader (option_to_list given)

-- What looking at the first record of one port does.
pub record LooksOnce (c : Settings) (port slot : ℕ) (old new : ReaderStand) (result : Result Shelf GatherFault) : Type 0 where
  pub uses : Uses (Only (old.depot.name slot)) Nothing (end_by gather_end result) old.depot new.depot
  pub looked : IfOk result (λ s. Looked c port slot old new s)
  pub stops : IsTrue old.depot.told → IfErr result (λ e. IsStopped e → StopsFirst c port (opened_at slot old) old.budget e)
  pub leaves : OnErr result (Gave slot old.depot new.depot old.reader new.reader [] × (new.budget ≡ old.budget))
  pub fails : IfErr result (KeepsFault port new.reader)

-- where captures stand before they have shelves: the store, the captures, and what is left of the limits
pub record Start : Type 0 where
  pub seen : Seen
  pub ins : List Input
  pub left : Budget

abbrev pub start_at : Seen → List Input → Budget → Start
start_at seen ins left = record { seen = seen; ins = ins; left = left }

-- What looking at the first record of each port does: after it the looks to come stop where all looks do, or it ends as the
-- first stop says, which has no window.
pub record LooksFirst (c : Settings) (old new : Start) (result : Result (Vec Shelf Global) GatherFault) : Type 0 where
  pub uses : Uses (NameIn old.seen (slots_of old.ins)) Nothing (end_by gather_end result) old.seen new.seen
  pub slots : slots_of new.ins ≡ slots_of old.ins
  pub count : IfOk result (λ v. length v.items ≡ length old.ins)
  pub ready : IfOk result (λ v. AreReady c 0 new.ins v.items new.left)
  pub read : IfOk result (λ v. HaveRead c 0 (opened_in old.seen old.ins) (map (λ i. []) old.ins) new.ins v.items new.seen)
  pub spent : IfOk result (λ v. Spends old.left new.left 0 (counts_of v.items))
  pub looks_ : IsTrue old.seen.told →
      IfOk result
      (λ v. stop c old.left.bytes old.left.frames (opened_in old.seen old.ins) ≡ stop_from c (first_window (in_order (joined (rests c 1 new.seen new.ins v.items)))) new.seen new.ins v.items new.left)
  pub stops : IsTrue old.seen.told →
      IfErr result (λ e. IsStopped e → (s : Stop) × (stop c old.left.bytes old.left.frames (opened_in old.seen old.ins) ≡ Some s) × (ending s ≡ e) × (s.window ≡ None))
  pub leaves : OnErr result ((q : ℕ) (i i' : Input) → slice_get old.ins q ≡ Some i → slice_get new.ins q ≡ Some i' → LeavesFirst old.seen new.seen i i')
  pub fails : IfErr result (λ e. e ≢ fault.Memory → OneKeeps new.ins e)
  pub found : (found : ℕ) × Spends old.left new.left 0 found
  pub takes : TakesFrom old.ins new.ins old.left new.left

-- ---- which window comes next

-- the least window of the records that were looked at; none at the end of all captures
abbrev pub IsNextWindow : Settings → List Shelf → Option ℕ → Type 0
IsNextWindow c shelves None = (q : ℕ) (s : Shelf) → slice_get shelves q ≡ Some s → s.next ≡ None
IsNextWindow c shelves (Some w) =
    ((q : ℕ) × (s : Shelf) × (r : Record) × (slice_get shelves q ≡ Some s) × (s.next ≡ Some r) × (window_start c r.moment ≡ w))
    × ((q : ℕ) (s : Shelf) → slice_get shelves q ≡ Some s → IfSome s.next (λ r. w ≤ window_start c r.moment))
