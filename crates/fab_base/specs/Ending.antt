-- How a call ends, and what its ending says of the store.
use Rattle.std.specs.Prelude.{◌≡◌, ℕ, List, ◌++◌, ◌⊎◌, Some, Result, Ok, Err}
use Rattle.fab_base.specs.Seen.{Seen, Touches, Rose, SameReadFaults, SameWriteFaults}

-- ---- how a call ends

-- What an answer rests on.
pub data End : Type 0 where
  -- what was found; it may be wrong, or pass a limit
  Said : End
  -- a fault of the store, which was reading or writing
  Read : End
  Write : End
  -- memory was refused
  Memory : End

-- the ending of a result, from that of its faults
abbrev pub end_by : {T F : Type 0} → (F → End) → Result T F → End
end_by end_of (Ok x) = Said
end_by end_of (Err fault) = end_of fault

-- an answer that rests on what was found
abbrev pub IsSaid : End → Type 0
IsSaid Said = Unit {0}
IsSaid end = ⊥

-- such an answer says this; a fault of the store and want of memory say nothing
abbrev pub WhereSaid : End → Type 0 → Type 0
WhereSaid Said fact = fact
WhereSaid end fact = Unit {0}

-- ---- what was counted

-- no count of faults has changed, neither of reading nor of writing
abbrev pub NoFaults : Seen → Seen → Type 0
NoFaults old new = SameReadFaults old new × SameWriteFaults old new

-- A fault of reading is counted only by a call that ends in one. So want of memory never stands for one.
abbrev pub SparesReads : End → Seen → Seen → Type 0
SparesReads Read old new = Unit {0}
SparesReads end old new = SameReadFaults old new

-- The same of writing.
abbrev pub SparesWrites : End → Seen → Seen → Type 0
SparesWrites Write old new = Unit {0}
SparesWrites end old new = SameWriteFaults old new

-- Both, and the other way round: a call that ends in a fault of the store has counted it, which is `read` or `write`.
abbrev pub Counts : Type 0 → Type 0 → End → Seen → Seen → Type 0
Counts read write Said old new = NoFaults old new
Counts read write Read old new = read × SameWriteFaults old new
Counts read write Write old new = write × SameReadFaults old new
Counts read write Memory old new = NoFaults old new

-- The same of a call that reads one name and writes none.
abbrev pub CountsRead : List ℕ → End → Seen → Seen → Type 0
CountsRead name end old new = Counts (Rose (old.read_faults name) (new.read_faults name)) ⊥ end old new

-- ---- what a call did to the store

-- bytes with which others begin
abbrev pub IsPrefixOf : List ℕ → List ℕ → Type 0
IsPrefixOf front whole = (rest : List ℕ) × (front ++ rest ≡ whole)

-- a file holds bytes with which these begin
abbrev pub HoldsSome : Seen → List ℕ → List ℕ → Type 0
HoldsSome d name whole = (bytes : List ℕ) × (d.file name ≡ Some bytes) × IsPrefixOf bytes whole

-- a file is as it was, or holds such bytes
abbrev pub IsOldOrFront : Seen → Seen → List ℕ → List ℕ → Type 0
IsOldOrFront old new name whole = (new.file name ≡ old.file name) ⊎ HoldsSome new name whole

-- one of these names, or of those
abbrev pub Either : (List ℕ → Type 0) → (List ℕ → Type 0) → List ℕ → Type 0
Either these those m = these m ⊎ those m

-- the count of one of these names rose
abbrev pub RoseIn : (List ℕ → Type 0) → (List ℕ → ℕ) → (List ℕ → ℕ) → Type 0
RoseIn names before now = (m : List ℕ) × names m × Rose (before m) (now m)

-- What calls leave that read files of some names and write files of others, and end so: no other file, slot or count is touched, and
-- of the faults of the store exactly that one is counted in which they end.
pub record Uses (reads writes : List ℕ → Type 0) (end : End) (old new : Seen) : Type 0 where
  pub touches : Touches writes (Either reads writes) old new
  pub counts : Counts (RoseIn reads old.read_faults new.read_faults) (RoseIn writes old.write_faults new.write_faults) end old new
