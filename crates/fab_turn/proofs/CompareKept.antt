-- To compare changes nothing, and tells what the rule has of the last join.
use Rattle.std.proofs.Common.{◌≢◌, ℕ, List, sym, subst, refl}
use mathlib.Core.Option as maybe
use Rattle.atomic_table.specs.Table.{keeps, step, Allows}
use Rattle.atomic_table.proofs.Lists.{set_again}
use Rattle.fab_turn.specs.declared.view.Role.TheVariants.{Spent}
use Rattle.fab_turn.specs.Rule.{IsOneHistory}
use Rattle.fab_turn.specs.Steps.{Sat, Compares}
use Rattle.fab_turn.proofs.Moves.{Holds}
use Rattle.fab_turn.proofs.LookKept.{set_same}

pub compares : {V E : Type 0} (entries : V → List E) (port_of : E → ℕ) (grown : V → V → Type 0) (first : V) (slots id word : ℕ) (me : Sat V E) → me.0.role ≢ Spent
    → Allows (IsOneHistory entries port_of grown first) slots id me word (λ n. n) (Compares (step slots word 0 0 maybe.none) me)
compares entries port_of grown first slots id word me live s r deep there small = (
  me.0,
  keeps,
  tt,
  subst (Holds entries port_of grown first) (λ k. record { words = sym (set_same s.words word 0) k; homes = s.homes; views = sym (set_again s.views id me.0 there) k }) r,
  (refl, (r.each id me.0 (there, live)).met),
)
