-- Lines that are written one after another.
use Rattle.std.proofs.Common.{◌≡◌, ℕ, ◌+◌, List, ◌++◌, drop, Some, sym, ap, ◌∙◌, append_assoc}
use Rattle.std.specs.Prelude.{slice_get}
use Rattle.fab_base.specs.Ending.{IsPrefixOf}
use Rattle.fab_policy.specs.Growing.{clock_after, lines_from}
use Rattle.fab_policy.specs.Text.{line}
use Rattle.fab_policy.specs.declared.event.Event.{Event}
use Rattle.fab_windows.proofs.CountLemmas.{drop_next}

pub lines_step : (clock clock' i : ℕ) (events : List Event) (e : Event) (lines lines' all : List ℕ) → slice_get events i ≡ Some e → clock' ≡ clock_after clock e → lines' ≡ lines ++ line clock' e →
    lines ++ lines_from clock (drop i events) ≡ all → lines' ++ lines_from clock' (drop (i + 1) events) ≡ all
lines_step clock clock' i events e lines lines' all at same is so_far =
    ap (λ l. l ++ lines_from clock' (drop (i + 1) events)) is
    ∙ append_assoc lines (line clock' e) (lines_from clock' (drop (i + 1) events))
    ∙ ap (λ (t : ℕ). lines ++ (line t e ++ lines_from t (drop (i + 1) events))) same
    ∙ ap (λ l. lines ++ lines_from clock l) (sym (drop_next events i e at))
    ∙ so_far

-- what begins so still does with more behind it
pub longer : (front lines more lines' : List ℕ) → IsPrefixOf front lines → lines' ≡ lines ++ more → IsPrefixOf front lines'
longer front lines more lines' begun is = (begun.0 ++ more, sym (append_assoc front begun.0 more) ∙ ap (λ l. l ++ more) begun.1 ∙ sym is)
