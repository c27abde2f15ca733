-- Laws of the next tick.
use Rattle.std.specs.Prelude.{◌≡◌, ◌↔◌, ◌⊎◌, ℕ, ◌%◌, ◌<◌, ◌≤◌, Option, Some}
use Rattle.fab_config.specs.Settings.{Settings}
use Rattle.fab_policy.specs.Journal.{Journal, clock}
use Rattle.fab_policy.specs.Legal.{IsTickDue, IsDue, IsDueBy, IsNextTick, IsNextTickBy}
use Rattle.fab_policy.specs.Outputs.{State}
use Rattle.fab_policy.specs.State.{Tables}

-- One moment at most is due.
abbrev pub DueIsOne : Type 0
DueIsOne = (c : Settings) (T : Tables) (advertised : Option ℕ) (m n : ℕ) → IsTickDue c T advertised m → IsTickDue c T advertised n → m ≡ n

-- A moment is the lesser of a window's start and of the moment that is due, if one is.
abbrev pub IsLesser : Settings → Journal → ℕ → ℕ → Type 0
IsLesser c J w m = ((m ≡ w) × ((k : ℕ) → IsDue c J k → w ≤ k)) ⊎ (IsDue c J m × (m < w))

-- After the first tick the next one is the lesser of the window of the next frames and of the moment that is due.
abbrev pub NextTickIsLesser : Type 0
NextTickIsLesser = (c : Settings) (J : Journal) (t w m : ℕ) → clock J ≡ Some t → t < w → w % c.window ≡ 0 → IsNextTick c J w m ↔ IsLesser c J w m

-- the same by what a fabric keeps
abbrev pub IsLesserBy : Settings → State → ℕ → ℕ → Type 0
IsLesserBy c S w m = ((m ≡ w) × ((k : ℕ) → IsDueBy c S k → w ≤ k)) ⊎ (IsDueBy c S m × (m < w))

abbrev pub NextTickByIsLesser : Type 0
NextTickByIsLesser = (c : Settings) (S : State) (t w m : ℕ) → S.tables.clock ≡ Some t → t < w → w % c.window ≡ 0 → IsNextTickBy c S w m ↔ IsLesserBy c S w m
