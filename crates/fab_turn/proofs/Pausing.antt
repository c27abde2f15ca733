-- A pass that looked for a pause is as it was.
use Rattle.std.proofs.Common.{◌≡◌, List, Option, sym, ap, ◌∙◌, ℕ}
use Rattle.fab_turn.specs.declared.board.TurnLock.{TurnLock}
use Rattle.fab_turn.specs.declared.board.Pass.{Pass}
use Rattle.fab_turn.specs.declared.view.View.{View}
use Rattle.fab_turn.specs.Views.{role_of}
use Rattle.fab_turn.specs.Lock.{view, seen, own, IsPassOf, IsIdle, IsSamePass, Moved}

module _ {V E : Type 0} (lock : TurnLock V E) (old new : Pass V E) (m : Moved old new old.seat.me) where
  view_is : view new ≡ view old
  view_is = ap (λ (x : View V E × List (ℕ × Option V)). x.0) m.2

  pub still_of : IsPassOf lock old → IsPassOf lock new
  still_of p = (m.1 ∙ p.0, ap (λ (x : View V E). x.role) view_is ∙ (p.1 ∙ sym (ap role_of m.0)), ap (λ (x : View V E). x.first) view_is ∙ p.2)

  pub still_idle : IsIdle old → IsIdle new
  still_idle i = (ap (λ (x : View V E). x.ticket) view_is ∙ i.0, ap (λ (x : View V E). x.served) view_is ∙ i.1, ap (λ (x : View V E × List (ℕ × Option V)). x.1) m.2 ∙ i.2)

  pub still_same : (now : Pass V E) → IsSamePass new now → IsSamePass old now
  still_same now s = (s.0 ∙ m.0, s.1 ∙ ap (λ (x : View V E). x.given) view_is, s.2 ∙ ap (λ (x : View V E). x.kept) view_is)

  pub still_seen : seen new ≡ seen old
  still_seen = ap (λ (x : View V E). x.seen) view_is

  pub still_own : own new ≡ own old
  still_own = ap (λ (x : View V E). x.own) view_is
