-- The frames of entries that come after others.
use Rattle.std.proofs.Common.{◌≡◌, ℕ, List, [], ◌∷◌, ◌++◌, refl, ap, ◌∙◌}
use Rattle.fab_base.specs.declared.values.Caught.{Caught}
use Rattle.fab_policy.specs.Standing.{Contents, Takes, AreFrames}
use Rattle.fab_states.specs.Went.{Grown}
use Rattle.fab_policy.specs.declared.event.Event.{Event}
use Rattle.fab_policy.specs.declared.event.Event.TheVariants.{Tick, Frame}
use Rattle.fab_policy.specs.declared.verdict.Verdict.{Verdict}
use Rattle.fab_shared.specs.Frames.{frames_of}

frames_of-append : (es more : List Event) → frames_of (es ++ more) ≡ frames_of es ++ frames_of more
frames_of-append [] more = refl
frames_of-append (Tick m ended ∷ es) more = frames_of-append es more
frames_of-append (Frame port index caught verdict ∷ es) more = ap (λ (l : List Event). Frame port index caught verdict ∷ l) (frames_of-append es more)

frames_of-frames : (es : List Event) → AreFrames es → frames_of es ≡ es
frames_of-frames [] h = refl
frames_of-frames (Tick m ended ∷ es) h = absurd h
frames_of-frames (Frame port index caught verdict ∷ es) h = ap (λ (l : List Event). Frame port index caught verdict ∷ l) (frames_of-frames es h)

-- those of a fabric that has grown
pub frames_grown : (first F : Contents) (g : Grown first F) → frames_of F.events ≡ frames_of first.events ++ g.later
frames_grown first F g =
    ap frames_of g.events ∙ frames_of-append first.events g.later ∙ ap (λ (l : List Event). frames_of first.events ++ l) (frames_of-frames g.later g.frames)

-- those of a fabric that took one more
pub frames_taken : (F G : Contents) (port index : ℕ) (caught : Caught) (v : Verdict) → Takes F (Frame port index caught v) G → frames_of G.events ≡ frames_of F.events ++ Frame port index caught v ∷ []
frames_taken F G port index caught v took = ap frames_of took.events ∙ frames_of-append F.events (Frame port index caught v ∷ [])
