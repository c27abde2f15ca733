-- What follows, window by window, of how far the captures were read.
use Rattle.std.specs.Prelude.{◌≡◌, ℕ, ◌+◌, ◌-◌, ◌^◌, ◌≤◌, ◌<◌, true, IsTrue, List, [], ◌∷◌, length, Some, None, option_to_list, nat_lt, slice_get}
use Rattle.std.specs.List.{All}
use Rattle.fab_base.specs.Seen.{Seen}
use Rattle.fab_config.specs.Settings.{Settings}
use Rattle.fab_policy.specs.Growing.{with_more, AllBelow}
use Rattle.window_records.specs.Keeping.{IsAhead, Splits}
use Rattle.window_records.specs.Looks.{Opened, Stop, in_order, first_window, all_records, MOST_SPAN}
use Rattle.pcap_file.specs.declared.Budget.{Budget}
use Rattle.pcap_file.specs.declared.Record.{Record}
use Rattle.window_records.specs.declared.shelf.Input.{Input}
use Rattle.window_records.specs.declared.shelf.Shelf.{Shelf}
use Rattle.pcap_file.specs.declared.fault.LimitKind.TheVariants as limit
use Rattle.pcap_file.specs.declared.fault.GatherFault.TheVariants as fault
use Rattle.window_records.specs.First.{IsNextWindow}
use Rattle.window_records.specs.Port.{Spends, AreIn, ending}
use Rattle.window_records.specs.Ports.{AreReady, Walk, TookAll, rests, joined, stop_from, counts_of}
use Rattle.window_records.specs.Reads.{HaveRead, batches_of, IsWhole}

-- ---- the looks to come

-- Looks in a window or later ones stop there or later.
abbrev pub LooksAhead : Type 0
LooksAhead = (c : Settings) (first w : ℕ) (d : Seen) (ins : List Input) (shelves : List Shelf) (left : Budget) → AreReady c w ins shelves left → IsAhead w (stop_from c first d ins shelves left)

-- The next window isn't before the one that the ports are ready for, and they are ready for it.
abbrev pub NextIsAhead : Type 0
NextIsAhead =
    (c : Settings) (v w : ℕ) (ins : List Input) (shelves : List Shelf) (left : Budget) → length shelves ≡ length ins → AreReady c v ins shelves left
    → IsNextWindow c shelves (Some w) → (v ≤ w) × (w < 2 ^ 43) × AreReady c w ins shelves left

-- It is the window of the first look to come.
abbrev pub NextIsFirst : Type 0
NextIsFirst =
    (c : Settings) (v w : ℕ) (d : Seen) (ins : List Input) (shelves : List Shelf) (left : Budget) → length shelves ≡ length ins → AreReady c v ins shelves left
    → IsNextWindow c shelves (Some w) → first_window (in_order (joined (rests c 1 d ins shelves))) ≡ w

-- Where it starts too long after the first window, the looks stop there.
abbrev pub LateEnds : Type 0
LateEnds =
    (c : Settings) (first v w : ℕ) (d : Seen) (ins : List Input) (shelves : List Shelf) (left : Budget) → length shelves ≡ length ins → AreReady c v ins shelves left
    → IsNextWindow c shelves (Some w) → nat_lt MOST_SPAN (w - first) ≡ true
    → (s : Stop) × (stop_from c first d ins shelves left ≡ Some s) × (ending s ≡ fault.Limit limit.Span) × (s.window ≡ Some w)

-- Where no window comes next no look is to come.
abbrev pub NoneIsLeft : Type 0
NoneIsLeft =
    (c : Settings) (first : ℕ) (d : Seen) (ins : List Input) (shelves : List Shelf) (left : Budget) → IsNextWindow c shelves None
    → stop_from c first d ins shelves left ≡ None

-- ---- a window that was taken

-- records of a window, those of each port
abbrev pub AllIn : Settings → ℕ → List (List Record) → Type 0
AllIn c w [] = Unit {0}
AllIn c w (records ∷ batches) = AreIn c w records × AllIn c w batches

-- some port has a record
abbrev pub HasSome : List (List Record) → Type 0
HasSome batches = (q : ℕ) × (r : Record) × (records : List Record) × (slice_get batches q ≡ Some (r ∷ records))

-- how many records were looked at
abbrev pub ahead_of : List Shelf → ℕ
ahead_of [] = 0
ahead_of (s ∷ shelves) = length (option_to_list s.next) + ahead_of shelves

-- The shelves have records of the window, of at least one port, and fewer records are left.
pub record Moves (c : Settings) (w : ℕ) (old new : Walk) : Type 0 where
  pub batches : AllIn c w (batches_of new.shelves)
  pub some : HasSome (batches_of new.shelves)
  pub fewer : new.left.frames + ahead_of new.shelves < old.left.frames + ahead_of old.shelves

abbrev pub WindowMoves : Type 0
WindowMoves =
    (c : Settings) (w : ℕ) (old new : Walk) → length old.shelves ≡ length old.ins → length new.ins ≡ length old.ins → length new.shelves ≡ length old.shelves
    → IsNextWindow c old.shelves (Some w) → TookAll c w old new → AreReady c (w + 1) new.ins new.shelves new.left
    → Spends old.left new.left (counts_of old.shelves) (counts_of new.shelves) → Moves c w old new

-- ---- what was read

-- What was read goes on by what a window took.
abbrev pub ReadsOn : Type 0
ReadsOn =
    (c : Settings) (w : ℕ) (opened : List Opened) (taken : List (List Record)) (old new : Walk) → new.seen.told ≡ old.seen.told → length new.ins ≡ length old.ins
    → length new.shelves ≡ length old.shelves → HaveRead c w opened taken old.ins old.shelves old.seen → TookAll c w old new
    → HaveRead c (w + 1) opened (with_more taken (batches_of new.shelves)) new.ins new.shelves new.seen

-- It stays at a later window.
abbrev pub ReadStays : Type 0
ReadStays =
    (c : Settings) (v w : ℕ) (opened : List Opened) (taken : List (List Record)) (ins : List Input) (shelves : List Shelf) (d : Seen) → v ≤ w
    → HaveRead c v opened taken ins shelves d → HaveRead c w opened taken ins shelves d

-- It is of as many ports as there are, and in windows before that one.
abbrev pub ReadIsBelow : Type 0
ReadIsBelow =
    (c : Settings) (w : ℕ) (opened : List Opened) (taken : List (List Record)) (ins : List Input) (shelves : List Shelf) (d : Seen) → HaveRead c w opened taken ins shelves d
    → (length taken ≡ length ins) × AllBelow c w taken

-- The records of each capture are those that were taken, and then later ones.
abbrev pub ReadSplits : Type 0
ReadSplits =
    (c : Settings) (w : ℕ) (opened : List Opened) (taken : List (List Record)) (ins : List Input) (shelves : List Shelf) (d : Seen) (left : Budget) → IsTrue d.told
    → HaveRead c w opened taken ins shelves d → AreReady c w ins shelves left → Splits c w opened taken

-- At the end of all captures they are all records, and whole.
abbrev pub ReadIsAll : Type 0
ReadIsAll =
    (c : Settings) (w : ℕ) (opened : List Opened) (taken : List (List Record)) (ins : List Input) (shelves : List Shelf) (d : Seen) → IsTrue d.told
    → HaveRead c w opened taken ins shelves d → IsNextWindow c shelves None → (taken ≡ all_records opened) × All IsWhole opened
