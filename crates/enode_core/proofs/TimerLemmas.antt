-- The timers of a node come later and later.
use Rattle.std.proofs.Common.{◌≡◌, ℕ, ◌+◌, ◌<◌, ◌≤◌, min, Bool, true, false, ◌==◌, if◌then◌else◌, arith, refl}
use Rattle.std.proofs.lemmas.Bool.Decides.{nat_tests}
use Rattle.enode_core.specs.declared.node.Identity.{Identity}
use Rattle.enode_core.specs.declared.node.Stage.{Stage}
use Rattle.enode_core.specs.declared.node.Stage.TheVariants.{Asking, Looking, Logging, Up}
use Rattle.enode_core.specs.declared.node.State.{State}
use Rattle.enode_core.specs.Machine.{due, timer, at_due, silent_from, looks, keeps}
use Rattle.enode_core.specs.Sound.{IsSoundStage, IsSound}

later_keep : (nd pd silent period : ℕ) → 250 ≤ period → (let now = min (min nd pd) silent in silent == now ≡ false →
    now < min (min (if nd == now then now + period else nd) (if pd == now then now + 90000 else pd)) silent)
later_keep nd pd silent period least quiet = grind (arith, nat_tests)

pub timer_later : (own : Identity) (s : State) → IsSound s → due s.stage < due (timer own s).state.stage
timer_later own s h = by_stage s.stage h.stage
  where
    by_stage : (stage : Stage) → IsSoundStage stage → due stage < due (at_due own s stage).state.stage
    by_stage (Asking at) g = omega arith
    by_stage (Looking at) g = omega arith
    by_stage (Logging kept at) g = omega arith
    by_stage (Up kept a nd pd heard) g = by_silence (silent_from kept.period heard == now) refl
      where
        now : ℕ
        now = due (Up kept a nd pd heard)

        by_silence : (b : Bool) → silent_from kept.period heard == now ≡ b → now < due (if b then looks own s now else keeps own s kept a nd pd heard now).state.stage
        by_silence true e = omega arith
        by_silence false e = later_keep nd pd (silent_from kept.period heard) kept.period g.0.least e
