-- Who is overdue, by a walk over all N_Ports.
use Rattle.std.proofs.Common.{◌≡◌, ℕ, not, if◌then◌else◌, Bool, true, false, List, [], ◌∷◌, map, filter, refl, sym, ap, ◌∙◌, arith}
use mathlib.Core.Bool.{beq}
use Rattle.std.proofs.lemmas.Bool.Decides.{nat_tests}
use Rattle.std.specs.List.{list_any}
use Rattle.fab_config.specs.Settings.{Settings}
use Rattle.fab_policy.specs.State.{LivePort, is_overdue, overdue}
use Rattle.fab_roster.specs.Changes.{has_overdue, is_late}
use Rattle.fab_roster.specs.Roll.{Roll, login_of}

-- the test of being overdue, or of not being it
abbrev pub is_so : Bool → ℕ → ℕ → LivePort → Bool
is_so late period m p = if late then is_late period m p else not (is_late period m p)

-- a result is compared with the one that is wanted
pub so_is : (late b t x : Bool) → b ≡ t → beq b late ≡ x → (if late then t else not t) ≡ x
so_is true true t x e f = sym e ∙ f
so_is true false t x e f = sym e ∙ f
so_is false true t x e f = ap not (sym e) ∙ f
so_is false false t x e f = ap not (sym e) ∙ f

-- where nobody passes a test, none is left by it
pub filter-nobody : {X : Type 0} (p : X → Bool) (xs : List X) → list_any p xs ≡ false → filter p xs ≡ []
filter-nobody p [] nobody = refl
filter-nobody p (x ∷ xs) nobody = grind (arith, nat_tests, λ (later : list_any p xs ≡ false). filter-nobody p xs later)

-- where nobody is overdue, or nobody is live, no login is
module _ (R : Roll) (m : ℕ) (s : Settings) (same : s.period ≡ R.period) where
  pub nobody_overdue : has_overdue R m ≡ false → [] ≡ map login_of (overdue s R.tables m)
  nobody_overdue nobody = sym (ap (map login_of) (filter-nobody (is_overdue s m) R.tables.ports
      (ap (λ n. list_any (is_late n m) R.tables.ports) same ∙ nobody)))

  pub nobody_live : R.tables.ports ≡ [] → [] ≡ map login_of (overdue s R.tables m)
  nobody_live none = sym (ap (λ ps. map login_of (filter (is_overdue s m) ps)) none)
