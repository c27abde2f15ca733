-- An output against the bytes that it should have, which come piece by piece.
use Rattle.std.specs.Prelude.{◌≡◌, ◌≢◌, ℕ, ◌-◌, ◌^◌, ◌<◌, min, IsTrue, List, ◌++◌, length, take, slice_get, Option, None, Some, Result, IfOk, OnOk, OnErr}
use Rattle.fab_base.specs.Seen.{Seen, Reads, SameReadFaults}
use Rattle.pcap_file.specs.Reading.{ReadsRose}
use Rattle.fab_base.specs.declared.values.Failed.{Failed}
use Rattle.fab_replay.specs.declared.outputs.Compared.{Compared}

-- Two texts begin with the same n bytes, and then come two bytes that differ, or one text has ended and the other hasn't.
pub record IsFirstDifference (n : ℕ) (found wanted : List ℕ) : Type 0 where
  pub same : take n found ≡ take n wanted
  pub differ : slice_get found n ≢ slice_get wanted n

-- a place as a number of 64 bits; one that is greater stands at their end
abbrev pub told_place : ℕ → ℕ
told_place n = min n (2 ^ 64 - 1)

-- The bytes that were found are those that were wanted, or the place is the first difference.
abbrev pub IsCompared : Option ℕ → List ℕ → List ℕ → Type 0
IsCompared None found wanted = found ≡ wanted
IsCompared (Some place) found wanted = (n : ℕ) × (place ≡ told_place n) × IsFirstDifference n found wanted

-- ---- while the wanted bytes come

-- A file of these bytes was read so far that `left` is still to come. It begins with the bytes that are wanted so far, or
-- differs from them at a first place.
abbrev pub IsReadAt : Option ℕ → ℕ → List ℕ → List ℕ → List ℕ → Type 0
IsReadAt None at found left wanted = (at ≡ told_place (length wanted)) × (found ≡ wanted ++ left)
IsReadAt (Some place) at found left wanted = (n : ℕ) × (place ≡ told_place n) × (n < length wanted) × IsFirstDifference n found wanted

abbrev pub IsRead : Compared → List ℕ → List ℕ → List ℕ → Type 0
IsRead c found left wanted = IsReadAt c.first c.at found left wanted

-- One comparison went on to another by these further bytes, and no fault was counted.
pub record GoesOn (s : ℕ) (bytes : List ℕ) (old new : Seen) (c c' : Compared) : Type 0 where
  pub reads : Reads (old.name s) old new
  pub read : IsTrue old.told → (found wanted : List ℕ) → IsRead c found (old.left s) wanted → IsRead c' found (new.left s) (wanted ++ bytes)
  pub counts : SameReadFaults old new

-- One comparison went on to another by a front of these bytes, however much of the file was lost behind it.
pub record GoesPart (s : ℕ) (bytes : List ℕ) (old : Seen) (c c' : Compared) : Type 0 where
  pub front : List ℕ
  pub rest : List ℕ
  pub parts : bytes ≡ front ++ rest
  pub left : List ℕ
  pub read : IsTrue old.told → (found wanted : List ℕ) → IsRead c found (old.left s) wanted → IsRead c' found left (wanted ++ front)

-- Reading a file on against further bytes. It fails only where a fault of reading was counted, and else counts none.
pub record Feeds (s : ℕ) (bytes : List ℕ) (old new : Seen) (c c' : Compared) (result : Result (Unit {0}) Failed) : Type 0 where
  pub reads : Reads (old.name s) old new
  pub goes_on : OnOk result (GoesOn s bytes old new c c')
  pub part : OnErr result (GoesPart s bytes old c c')
  pub cause : OnErr result (ReadsRose s old new)

-- The end of the wanted bytes: what the file is against all of them. It fails only where a fault of reading was counted, and else
-- counts none.
pub record Finishes (s : ℕ) (old new : Seen) (c : Compared) (result : Result (Option ℕ) Failed) : Type 0 where
  pub reads : Reads (old.name s) old new
  pub compared : IsTrue old.told → IfOk result (λ place. (found wanted : List ℕ) → IsRead c found (old.left s) wanted → IsCompared place found wanted)
  pub cause : OnErr result (ReadsRose s old new)
  pub counts : OnOk result (SameReadFaults old new)
