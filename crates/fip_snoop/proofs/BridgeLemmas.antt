-- Frames that are handled one after another.
use Rattle.std.proofs.Common.{◌≡◌, ◌+◌, Bool, true, false, not, filter, [], ◌∷◌, length, refl, sym, ◌∙◌, ap}
use Rattle.std.proofs.lemmas.List.Filters.{length-filter_both}
use Rattle.std.proofs.lemmas.List.Sums.{length-filter}
use Rattle.fip_snoop.specs.History.{Handled}
use Rattle.fip_snoop.specs.Bridge.{handled, is_dropped, dropped, HistoryGoesOn, AllAreCounted}

pub history_goes_on : HistoryGoesOn
history_goes_on w L [] ys = refl
history_goes_on w L (x ∷ xs) ys = history_goes_on w (handled w L x ∷ L) xs ys

pub all_are_counted : AllAreCounted
all_are_counted L =
    ap (λ n. n + dropped L) (sym (length-filter passes L)) ∙ ap (λ n. length (filter passes L) + n) (sym (length-filter drops L))
    ∙ length-filter_both passes drops (λ h. twice (is_dropped h.way)) L
  where
    passes : Handled → Bool
    passes h = not (is_dropped h.way)

    drops : Handled → Bool
    drops h = is_dropped h.way

    twice : (b : Bool) → b ≡ not (not b)
    twice true = refl
    twice false = refl
