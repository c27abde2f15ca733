-- What writing to one file of a load adds to it.
use Rattle.std.specs.Prelude.{◌≡◌, ℕ, IsTrue, List, ◌++◌, Some, Result, OnOk}
use Rattle.fab_base.specs.Ending as ending
use Rattle.fab_base.specs.Ending.{End, end_by, IsPrefixOf, Uses}
use Rattle.fab_base.specs.Seen.{Seen, Nothing, Only}
use Rattle.fab_vectors.specs.declared.MakeFault.{MakeFault}
use Rattle.fab_vectors.specs.declared.MakeFault.TheVariants as fault

-- a file holds these bytes, and then a beginning of those
abbrev pub HoldsFront : Seen → List ℕ → List ℕ → List ℕ → Type 0
HoldsFront d name had bytes = (front : List ℕ) × (d.file name ≡ Some (had ++ front)) × IsPrefixOf front bytes

-- what a fault rests on
abbrev pub make_end : MakeFault → End
make_end fault.Write = ending.Write
make_end fault.Memory = ending.Memory

-- Adding bytes to the file of a name: all of them, or, where it fails, a beginning of them. No other file changes, and of the faults of
-- the store exactly that is counted in which it ends.
pub record AddsTo {T : Type 0} (name bytes : List ℕ) (old new : Seen) (result : Result T MakeFault) : Type 0 where
  pub uses : Uses Nothing (Only name) (end_by make_end result) old new
  pub whole : IsTrue old.told → (had : List ℕ) → old.file name ≡ Some had → OnOk result (new.file name ≡ Some (had ++ bytes))
  pub front : IsTrue old.told → (had : List ℕ) → old.file name ≡ Some had → HoldsFront new name had bytes

-- the same of the name of a slot
abbrev pub Adds : {T : Type 0} → ℕ → List ℕ → Seen → Seen → Result T MakeFault → Type 0
Adds s bytes old new result = AddsTo (old.name s) bytes old new result
