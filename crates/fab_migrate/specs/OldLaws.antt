-- What is true of each journal in format 1.
use Rattle.std.specs.Prelude.{◌≡◌, ℕ, ◌<◌, List, [], ◌∷◌, length, Some}
use Rattle.fab_policy.specs.Journal.{Journal, clock}
use Rattle.fab_policy.specs.Ranged.{IsRanged}
use Rattle.fab_policy.specs.Text.{text, text1}
use Rattle.fab_policy.specs.declared.event.Event.{Event}
use Rattle.fab_policy.specs.declared.event.Event.TheVariants as event
use Rattle.fab_policy.specs.declared.line.Line.{Line}
use Rattle.fab_migrate.specs.Old.{IsOld, HasFirstFault, new_text}
use Rattle.fab_migrate.specs.declared.old.OldWhy.{OldWhy}

-- A text is one list of lines at most, or has one first fault, and not both.
pub record OneReading (text : List ℕ) : Type 0 where
  pub lines : (ls ks : List Line) → IsOld text ls → IsOld text ks → ls ≡ ks
  pub fault : (m n : ℕ) (w v : OldWhy) → HasFirstFault text m w → HasFirstFault text n v → (m ≡ n) × (w ≡ v)
  pub not_both : (ls : List Line) (n : ℕ) (w : OldWhy) → IsOld text ls → HasFirstFault text n w → ⊥

-- an entry may follow a journal: a tick above its clock, or a frame behind a tick
abbrev pub MayFollow : Journal → Event → Type 0
MayFollow J (event.Tick m ended) = (t : ℕ) → clock J ≡ Some t → t < m
MayFollow J (event.Frame port index caught verdict) = (t : ℕ) × (clock J ≡ Some t)

-- the first entry of a journal, if any, is a tick, and the moments of its ticks rise
abbrev pub Rises : Journal → Type 0
Rises [] = Unit {0}
Rises (e ∷ J) = Rises J × MayFollow J e

-- The text of a journal in format 1 is what is migrated, where its first entry is a tick and its ticks rise; and what it is
-- migrated to is its text in format 2.
pub record IsMigratedTo (J : Journal) : Type 0 where
  pub is_old : Rises J → (ls : List Line) × IsOld (text1 J) ls
  pub is_new : (ls : List Line) → IsOld (text1 J) ls → (new_text ls ≡ text J) × (length ls ≡ length J)

abbrev pub JournalsAreMigrated : Type 0
JournalsAreMigrated = (J : Journal) → IsRanged J → IsMigratedTo J
