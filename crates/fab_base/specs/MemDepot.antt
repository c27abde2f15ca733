-- A depot in memory, as contracts see it.
use Rattle.std.specs.Prelude.{◌≡◌, ◌≢◌, ℕ, ◌-◌, Bool, true, false, ◌==◌, IsTrue, if◌then◌else◌, List, [], length, Option, None, Vec, drop, is_some, String}
use Rattle.std.specs.List.{list_any}
use Rattle.std.specs.declared.alloc.Global.{Global}
use Rattle.fab_base.specs.declared.desk.Desk.{Desk}
use Rattle.fab_base.specs.declared.desk.DeskSlot.{DeskSlot}
use Rattle.fab_base.specs.declared.mem_depot.MemDepot.{MemDepot}
use Rattle.fab_base.specs.Seen.{Seen, IsOpen, SameSlot, bytes_of}
use Rattle.fab_base.specs.Contents.{content_in, content_at, capacity_at}
use Rattle.fab_base.specs.Places.{place, name_at, slot_file, slot_at, is_input, is_output}
use Rattle.fab_base.specs.Desk.{count_at, one_more, spare_slots, file_of}
use Rattle.std.specs.Prelude.{slice_get}

-- what is left of a slot over these contents
abbrev pub left_by : List DeskSlot → List (Option (Vec ℕ Global)) → ℕ → List ℕ
left_by slots contents s = drop (slot_at (slice_get slots s)) (bytes_of (content_at contents (slot_file (slice_get slots s))))

-- names with two counts each, slots, and the contents of the names, which are told
abbrev pub seen_by : List (String Global) → List ℕ → List ℕ → List DeskSlot → List (Option (Vec ℕ Global)) → Seen
seen_by names reads writes slots contents = record {
  told = true;
  knows = λ n. is_some (place n names);
  input = λ s. is_input (slice_get slots s);
  output = λ s. is_output (slice_get slots s);
  name = λ s. name_at names (slot_file (slice_get slots s));
  file = λ n. content_in contents (place n names);
  left = left_by slots contents;
  read_faults = λ n. count_at reads (place n names);
  write_faults = λ n. count_at writes (place n names);
}

-- a desk over these contents
abbrev pub seen_of : Desk → List (Option (Vec ℕ Global)) → Seen
seen_of d contents = seen_by d.names.items d.reads.items d.writes.items d.slots.items contents

abbrev pub left_of : MemDepot → ℕ → List ℕ
left_of d = left_by d.desk.slots.items d.contents.items

abbrev pub mem_seen : MemDepot → Seen
mem_seen d = seen_of d.desk d.contents.items

-- the number of the next call, and the numbers of the calls that are to fail
abbrev pub next_call : MemDepot → ℕ
next_call d = d.calls

abbrev pub failing_calls : MemDepot → List ℕ
failing_calls d = d.failing.items

-- whether the next call is to fail
abbrev pub is_to_fail : MemDepot → Bool
is_to_fail d = list_any (λ number. number == next_call d) (failing_calls d)

-- how many more slots can be opened with the memory and the numbers that there are
abbrev pub slots_left : MemDepot → ℕ
slots_left d = spare_slots d.desk

-- how many more bytes the file at a place takes in the memory that it has
abbrev pub spare_at : List (Option (Vec ℕ Global)) → ℕ → ℕ
spare_at contents i = capacity_at contents i - length (bytes_of (content_at contents i))

-- the same of the file of a slot
abbrev pub bytes_left : MemDepot → ℕ → ℕ
bytes_left d s = spare_at d.contents.items (file_of d.desk s)

-- why a call may fail: it was told to, or something is missing
pub data MayFail (d : MemDepot) (lack : Type 0) : Type 0 where
  Told : is_to_fail d ≡ true → MayFail d lack
  Missing : lack → MayFail d lack

-- one call was counted
pub record Counted (old new : MemDepot) : Type 0 where
  pub calls : next_call new ≡ one_more (next_call old)
  pub failing : failing_calls new ≡ failing_calls old

-- a call whose failure is a fault of reading: both counts of its name are exact
pub record CountsReads (n : List ℕ) (failed : Bool) (old new : Seen) : Type 0 where
  pub reads : new.read_faults n ≡ (if failed then one_more (old.read_faults n) else old.read_faults n)
  pub writes : new.write_faults n ≡ old.write_faults n

-- and one whose failure is a fault of writing
pub record CountsWrites (n : List ℕ) (failed : Bool) (old new : Seen) : Type 0 where
  pub reads : new.read_faults n ≡ old.read_faults n
  pub writes : new.write_faults n ≡ (if failed then one_more (old.write_faults n) else old.write_faults n)

-- A name is known, and nothing else changes but perhaps its file.
pub record Learns (n : List ℕ) (old new : Seen) : Type 0 where
  pub told : new.told ≡ old.told
  pub known : IsTrue (new.knows n)
  pub others : (m : List ℕ) → m ≢ n → new.knows m ≡ old.knows m
  pub slots : (s : ℕ) → IsOpen old s → SameSlot s old new
  pub files : (m : List ℕ) → m ≢ n → new.file m ≡ old.file m
  pub left : (s : ℕ) → IsTrue (old.input s) → old.name s ≢ n → new.left s ≡ old.left s
  pub reads : (m : List ℕ) → new.read_faults m ≡ old.read_faults m
  pub writes : (m : List ℕ) → new.write_faults m ≡ old.write_faults m

-- the calls that are to fail stay, and no call is counted
pub record SameCalls (old new : MemDepot) : Type 0 where
  pub calls : next_call new ≡ next_call old
  pub failing : failing_calls new ≡ failing_calls old

-- nothing that a contract sees changes
pub record Same (old new : MemDepot) : Type 0 where
  pub seen : mem_seen new ≡ mem_seen old
  pub calls : SameCalls old new

-- a depot of which nothing was asked
pub record IsNew (d : MemDepot) : Type 0 where
  pub told : IsTrue (mem_seen d).told
  pub unknown : (n : List ℕ) → (mem_seen d).knows n ≡ false
  pub closed : (s : ℕ) → IsOpen (mem_seen d) s → ⊥
  pub no_file : (n : List ℕ) → (mem_seen d).file n ≡ None
  pub calls : next_call d ≡ 0
  pub failing : failing_calls d ≡ []
