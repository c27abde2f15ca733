-- A frame behind other entries.
use Rattle.std.proofs.Common.{◌≡◌, ℕ, ◌+◌, List, [], ◌∷◌, ◌++◌, refl, arith}
use Rattle.fab_base.specs.declared.values.Caught.{Caught}
use Rattle.fab_policy.specs.Journal.{frame_count}
use Rattle.fab_policy.specs.declared.event.Event.{Event}
use Rattle.fab_policy.specs.declared.event.Event.TheVariants.{Tick, Frame}
use Rattle.fab_policy.specs.declared.verdict.Verdict.{Verdict}

pub frames_behind : (es : List Event) (port index : ℕ) (caught : Caught) (v : Verdict) → frame_count (es ++ Frame port index caught v ∷ []) ≡ frame_count es + 1
frames_behind [] port index caught v = refl
frames_behind (Tick m ended ∷ es) port index caught v = frames_behind es port index caught v
frames_behind (Frame p i d w ∷ es) port index caught v = let e = frames_behind es port index caught v in omega (arith, e)
