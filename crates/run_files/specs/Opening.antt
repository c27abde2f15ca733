-- What opening several outputs does.
use Rattle.std.specs.Prelude.{◌≡◌, ◌≢◌, ℕ, ◌⊎◌, IsTrue, List, [], ◌∷◌, ◌++◌, Some, Result, IfOk, OnOk, OnErr}
use Rattle.fab_base.specs.Seen.{Seen, Rose, Touches, SameReadFaults, SameWriteFaults}
use Rattle.fab_base.specs.declared.values.Failed.{Failed}
use Rattle.run_files.specs.Names.{Among}

-- slots that are open outputs of these names, whose files are empty
abbrev pub AreEmptyOutputs : Seen → List (List ℕ) → List ℕ → Type 0
AreEmptyOutputs d [] [] = Unit {0}
AreEmptyOutputs d [] (s ∷ slots) = ⊥
AreEmptyOutputs d (name ∷ names) [] = ⊥
AreEmptyOutputs d (name ∷ names) (s ∷ slots) = (IsTrue (d.output s) × (d.name s ≡ name) × (IsTrue d.told → d.file name ≡ Some [])) × AreEmptyOutputs d names slots

-- Outputs were opened: each is as it was, or empty. No fault of reading was counted.
pub record Opens (names : List (List ℕ)) (old new : Seen) : Type 0 where
  pub touches : Touches (Among names) (Among names) old new
  pub each : IsTrue old.told → (m : List ℕ) → (new.file m ≡ old.file m) ⊎ (new.file m ≡ Some [])
  pub reads : SameReadFaults old new

-- Of outputs that are opened in this order one couldn't be opened: a fault of writing it was counted, and none of another. Those
-- before it are empty. It and those behind it are as they were, and so is every other file.
pub record OpenedUpTo (names : List (List ℕ)) (old new : Seen) : Type 0 where
  pub before : List (List ℕ)
  pub name : List ℕ
  pub behind : List (List ℕ)
  pub are : names ≡ before ++ name ∷ behind
  pub touches : Touches (Among before) (Among (before ++ name ∷ [])) old new
  pub empty : IsTrue old.told → (m : List ℕ) → Among before m → new.file m ≡ Some []
  pub rose : Rose (old.write_faults name) (new.write_faults name)
  pub others : (m : List ℕ) → m ≢ name → new.write_faults m ≡ old.write_faults m

-- Outputs of these names, opened in their order up to the first that couldn't be; these are the slots of what was opened.
pub record AllOpened {T : Type 0} (slots_of : T → List ℕ) (names : List (List ℕ)) (old new : Seen) (result : Result T Failed) : Type 0 where
  pub opens : Opens names old new
  pub slots : IfOk result (λ o. AreEmptyOutputs new names (slots_of o))
  pub cause : OnErr result (OpenedUpTo names old new)
  pub counts : OnOk result (SameWriteFaults old new)
