-- A frame that a fabric took in a turn is a step of the history.
use Rattle.std.proofs.Common.{◌≡◌, ℕ, List, [], ◌∷◌, ◌++◌, sym, ap, ◌∙◌, subst, append_assoc}
use mathlib.Core.List.{IsPrefix}
use Rattle.fab_base.specs.declared.values.Caught.{Caught}
use Rattle.fab_config.specs.Settings.{Settings}
use Rattle.fab_policy.specs.Journal.{followed}
use Rattle.fab_policy.specs.Legal.{IsRightEntry}
use Rattle.fab_policy.specs.Outputs.{State}
use Rattle.fab_policy.specs.Standing.{Contents, Takes}
use Rattle.fab_states.specs.Went.{Grown}
use Rattle.fab_policy.specs.declared.event.Event.{Event}
use Rattle.fab_policy.specs.declared.event.Event.TheVariants.{Frame}
use Rattle.fab_policy.specs.declared.verdict.Verdict.{Verdict}
use Rattle.fab_turn.specs.declared.board.Pass.{Pass}
use Rattle.fab_turn.specs.Lock.{seen, own}
use Rattle.fab_states.specs.States.{state_on}
use Rattle.fab_shared.specs.Frames.{frames_of}
use Rattle.fab_shared.specs.Shared.{IsStep}
use Rattle.fab_shared.specs.declared.locked.LockedFabric.{LockedFabric}
use Rattle.fab_shared.proofs.Entries.{frames_grown, frames_taken}

-- what begins a list begins one that goes on from it
pub begins_more : (xs ys zs more : List Event) → IsPrefix xs ys → zs ≡ ys ++ more → IsPrefix xs zs
begins_more xs ys zs more p e = (p.0 ++ more, sym (append_assoc xs p.0 more) ∙ ap (λ (l : List Event). l ++ more) p.1 ∙ sym e)

module _ (first F G : Contents) (port index : ℕ) (caught : Caught) (v : Verdict) (old mid new : Pass LockedFabric Event)
    (g : Grown first F) (took : Takes F (Frame port index caught v) G)
    (right : IsRightEntry F.settings F.state.tables (Frame port index caught v)) where
  pub is_step : IsPrefix (seen old) (frames_of F.events) → own mid ≡ own old → seen new ≡ frames_of G.events → own new ≡ own mid ++ Frame port index caught v ∷ []
      → IsStep first (Frame port index caught v) old new
  is_step begins same now mine = record {
    own_is = mine ∙ ap (λ (l : List Event). l ++ Frame port index caught v ∷ []) same;
    since = g.later;
    seen_is = now ∙ frames_taken F G port index caught v took ∙ ap (λ (l : List Event). l ++ Frame port index caught v ∷ []) (frames_grown first F g);
    earlier = subst (λ (l : List Event). IsPrefix (seen old) l) (frames_grown first F g) begins;
    legal = (
      g.legal,
      subst (λ (c : Settings). IsRightEntry c (state_on first.settings first.state (followed [] g.later)).tables (Frame port index caught v)) g.settings
          (subst (λ (S : State). IsRightEntry F.settings S.tables (Frame port index caught v)) g.state right),
    );
  }
