-- The outputs of all ports, each against the bytes that it should have.
use Rattle.std.specs.Prelude.{◌≡◌, ℕ, ◌+◌, ◌<◌, IsTrue, List, ◌++◌, length, slice_get, Option, None, Some, Result, IfOk, OnOk, OnErr, Vec}
use Rattle.std.specs.declared.alloc.Global.{Global}
use Rattle.fab_base.specs.Ending.{RoseIn}
use Rattle.fab_base.specs.Seen.{Seen, Touches, Nothing, SameReadFaults, SameWriteFaults}
use Rattle.fab_base.specs.declared.values.Failed.{Failed}
use Rattle.fab_pages.specs.Pages.{items_in, piece_at}
use Rattle.fab_base.specs.Slots.{slot_at, NameIn}
use Rattle.fab_replay.specs.Outputs.{IsCompared, IsRead, GoesPart}
use Rattle.fab_replay.specs.declared.outputs.Compared.{Compared}

-- the bytes of the page at a place, and nothing past the last
abbrev pub page_at : List (Vec ℕ Global) → ℕ → List ℕ
page_at pages q = piece_at (items_in pages) q

-- Each output, which has these bytes, was read against those that are wanted of it so far. Places count from 0.
abbrev pub AreRead : Seen → List ℕ → List Compared → (ℕ → List ℕ) → (ℕ → List ℕ) → Type 0
AreRead d slots all found wanted = (q : ℕ) (c : Compared) → slice_get all q ≡ Some c → IsRead c (found q) (d.left (slot_at slots q)) (wanted q)

-- a count of read faults of one of these slots rose
abbrev pub OneRose : List ℕ → Seen → Seen → Type 0
OneRose slots a b = RoseIn (NameIn a slots) a.read_faults b.read_faults

-- Reading each output on against the page of its port. It changes no file, and counts a fault only where it fails, of reading.
pub record FeedsEach (slots : List ℕ) (pages : List (Vec ℕ Global)) (a b : Seen) (all all' : List Compared) (result : Result (Unit {0}) Failed) : Type 0 where
  pub touches : Touches Nothing (NameIn a slots) a b
  pub count : length all' ≡ length all
  pub read : IsTrue a.told → OnOk result ((found wanted : ℕ → List ℕ) → AreRead a slots all found wanted → AreRead b slots all' found (λ q. wanted q ++ page_at pages q))
  pub part : OnErr result ((q : ℕ) (c c' : Compared) → slice_get all q ≡ Some c → slice_get all' q ≡ Some c' → GoesPart (slot_at slots q) (page_at pages q) a c c')
  pub cause : OnErr result (OneRose slots a b)
  pub counts : OnOk result (SameReadFaults a b)
  pub writes : SameWriteFaults a b

-- The first of so many outputs that isn't as it should be is that of this port, and it first differs at this place; or each is
-- as it should be.
abbrev pub IsFirst : Option (ℕ × ℕ) → ℕ → (ℕ → List ℕ) → (ℕ → List ℕ) → Type 0
IsFirst None n found wanted = (q : ℕ) → q < n → found q ≡ wanted q
IsFirst (Some (port, at)) n found wanted = (k : ℕ) × (port ≡ k + 1) × (k < n) × IsCompared (Some at) (found k) (wanted k) × ((q : ℕ) → q < k → found q ≡ wanted q)

-- The end of all wanted bytes.
pub record FinishesEach (slots : List ℕ) (a b : Seen) (all : List Compared) (result : Result (Option (ℕ × ℕ)) Failed) : Type 0 where
  pub touches : Touches Nothing (NameIn a slots) a b
  pub first : IsTrue a.told → IfOk result (λ first. (found wanted : ℕ → List ℕ) → AreRead a slots all found wanted → IsFirst first (length all) found wanted)
  pub cause : OnErr result (OneRose slots a b)
  pub counts : OnOk result (SameReadFaults a b)
  pub writes : SameWriteFaults a b
