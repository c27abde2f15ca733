-- Each frame has one right verdict, but for the address of a grant.
use Rattle.std.specs.Prelude.{◌≡◌, ◌⊎◌, ℕ}
use Rattle.fab_base.specs.declared.values.Caught.{Caught}
use Rattle.fab_config.specs.Settings.{Settings}
use Rattle.fab_policy.specs.State.{Tables}
use Rattle.fab_policy.specs.Verdicts.{IsRight}
use Rattle.fab_policy.specs.declared.verdict.Verdict.{Verdict}
use Rattle.fab_policy.specs.declared.verdict.Verdict.TheVariants.{Granted}

abbrev pub IsGrant : Verdict → Type 0
IsGrant v = (a : ℕ) × (v ≡ Granted a)

-- Two right verdicts of a frame over the same tables are one, or both grant an address.
abbrev pub RightIsOne : Type 0
RightIsOne = (c : Settings) (T : Tables) (port : ℕ) (caught : Caught) (v w : Verdict) → IsRight c T port caught v → IsRight c T port caught w → (v ≡ w) ⊎ (IsGrant v × IsGrant w)
