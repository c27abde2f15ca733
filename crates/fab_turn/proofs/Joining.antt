-- What a join is, by its steps: a pass was taken in, and the two histories were compared.
use Rattle.std.proofs.Common.{◌≡◌, ℕ, List, Option, sym, ap, ◌∙◌, subst}
use mathlib.Core.List.{IsPrefix}
use Rattle.fab_turn.specs.declared.board.Pass.{Pass}
use Rattle.fab_turn.specs.declared.view.View.{View}
use Rattle.fab_turn.specs.Steps.{longer, joined}
use Rattle.fab_turn.specs.Lock.{view, seen, Moved}
use Rattle.fab_turn.proofs.Histories.{both_begin}

pub join_begins : {V E : Type 0} (old took new pass : Pass V E) → Moved old took (joined (view old) (view pass), old.seat.me.1) → Moved took new took.seat.me → IsPrefix (view took).met (seen took)
    → IsPrefix (seen old) (seen new) × IsPrefix (seen pass) (seen new)
join_begins {V} {E} old took new pass a b met =
    let seen_is : seen new ≡ longer (seen old) (seen pass) = ap (λ (x : View V E × List (ℕ × Option V)). x.0.seen) b.2 ∙ ap (λ (x : View V E × List (ℕ × Option V)). x.0.seen) a.2 in
    subst (λ (l : List E). IsPrefix (seen old) l × IsPrefix (seen pass) l) (sym seen_is)
    (both_begin (seen old) (seen pass) (subst (λ (x : View V E × List (ℕ × Option V)). IsPrefix x.0.met x.0.seen) a.2 met))
