-- A frame with the verdict that a line tells.
use Rattle.std.specs.Prelude.{◌≡◌, ℕ, ◌⊎◌, Option, Some, Result, Ok, Err, MatchResult}
use Rattle.fab_base.specs.declared.values.Caught.{Caught}
use Rattle.fab_config.specs.Settings.{Settings}
use Rattle.fab_policy.specs.Standing.{Contents, Takes}
use Rattle.fab_policy.specs.State.{Tables}
use Rattle.fab_policy.specs.Verdicts.{IsRight}
use Rattle.fab_policy.specs.declared.event.Event.TheVariants.{Frame}
use Rattle.fab_policy.specs.declared.verdict.Verdict.{Verdict}
use Rattle.fab_policy.specs.declared.verdict.Verdict.TheVariants.{Granted}
use Rattle.forward_core.specs.Fabric.{IsTaken}
use Rattle.forward_core.specs.declared.step.StepFault.{StepFault}
use Rattle.forward_core.specs.declared.step.StepFault.TheVariants as step
use Rattle.fab_replay.specs.declared.verdicts.Misjudged.{Misjudged}
use Rattle.fab_replay.specs.declared.verdicts.Misjudged.TheVariants.{Wrong, Memory}

-- The verdict that was found isn't right over these tables, and the one that was made is.
abbrev pub IsMisjudged : Settings → Tables → ℕ → Caught → Verdict → Misjudged → Type 0
IsMisjudged c T port caught found (Wrong made) = (IsRight c T port caught found → ⊥) × IsRight c T port caught made
IsMisjudged c T port caught found Memory = Unit {0}

-- What a fabric is then: it has taken the frame with the verdict that was made, or it is as it was.
abbrev pub IsAfter : Contents → ℕ → ℕ → Caught → Misjudged → Contents → Type 0
IsAfter F port index caught (Wrong made) G = Takes F (Frame port index caught made) G
IsAfter F port index caught Memory G = G ≡ F

-- ---- how one is found out. No public clause cites these words.

-- A verdict grants the wished address if it is a grant, or the wish is taken.
abbrev pub IsWished : Settings → Tables → ℕ → Caught → Option ℕ → Verdict → Type 0
IsWished c T port caught wish v = IsTaken c T port caught wish ⊎ ((a b : ℕ) → wish ≡ Some a → v ≡ Granted b → b ≡ a)

-- What a step says of the verdict that was found: it made that one, or another one, or memory was refused.
abbrev pub IsJudged : Verdict → Result Verdict StepFault → Result (Unit {0}) Misjudged → Type 0
IsJudged found (Ok made) r = MatchResult r (λ done. made ≡ found) (λ e. (e ≡ Wrong made) × (made ≡ found → ⊥))
IsJudged found (Err step.Memory) r = r ≡ Err Memory
IsJudged found (Err step.WishTaken) r = ⊥
