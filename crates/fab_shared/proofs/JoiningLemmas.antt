-- Passes are taken back.
use Rattle.std.proofs.Common.{◌≡◌, ⊎_elim, ℕ, ◌<◌, Bool, true, false, ◌||◌, All, List, [], ◌∷◌, ◌++◌, refl, sym, ap, ◌∙◌, subst, arith}
use mathlib.Core.Logic.{dite}
use native.Mathlib.Decide.{ℕ_discrete}
use Rattle.window_records.specs.declared.shelf.Shelf.{Shelf}
use Rattle.fab_policy.specs.declared.event.Event.{Event}
use Rattle.fab_shared.specs.declared.locked.LockedFabric.{LockedFabric}
use Rattle.fab_shared.specs.declared.shared.SharedFabric.{SharedFabric}
use Rattle.fab_turn.specs.declared.board.Pass.{Pass}
use Rattle.fab_turn.specs.Lock.{own, given, kept, IsRootOf, IsIdle, AllJoined}
use Rattle.fab_turn.specs.Views.{has_kept, kept_list}
use Rattle.fab_turn.proofs.PortLists.{or_cases, kept_here, kept_there}
use Rattle.fab_shared.specs.Workers.{IsReady, IsDone, HasWorkers, IsTaken, AreTaken}
use Rattle.fab_shared.specs.declared.worker.Worker.{Worker}
use Rattle.fab_shared.proofs.WorkerLemmas.{goes, ready_front, ready_last}

-- one more list is kept
pub taken_more : (shelves : List Shelf) (old new : Pass LockedFabric Event) (port : ℕ) (es : List Event) → kept new ≡ (port, es) ∷ kept old → IsTaken shelves port es → AreTaken shelves old → AreTaken shelves new
taken_more shelves old new port es is mine taken p has =
    subst (IsTaken shelves p) (sym (ap (kept_list p) is))
    (dite (ℕ_discrete port p)
    (λ same. subst (λ (q : ℕ). IsTaken shelves q (kept_list q ((port, es) ∷ kept old))) same (subst (IsTaken shelves port) (sym (kept_here port es (kept old))) mine))
    (λ other. subst (IsTaken shelves p) (sym (kept_there port p es (kept old) other))
    (⊎_elim (λ (same : port ≡ p). absurd (other same)) (λ (there : has_kept p (kept old) ≡ true). taken p there) (or_cases port p (has_kept p (kept old)) (sym (ap (has_kept p) is) ∙ has)))))

-- where nobody is left all are joined
pub all_joined : (root : Pass LockedFabric Event) → HasWorkers root [] → AllJoined root
all_joined root has p e = ⊎_elim (λ (k : has_kept p (kept root) ≡ true). k) (λ (a : (k : ℕ) × (k < 0) × ((d : Worker) → d.port ≡ p)). absurd (omega arith)) (has p e)

-- Of all workers these are left.
pub record AreLeft (shared : SharedFabric) (first root : Pass LockedFabric Event) (all left : List Worker) (refused : Bool) : Type 0 where
  pub root_is : IsRootOf shared.lock root × IsIdle root
  pub given_is : given root ≡ given first
  pub ready : All (λ w. IsReady shared w) left
  pub workers_are : HasWorkers root left
  pub taken : refused ≡ false → (shelves : List Shelf) → All (λ w. IsDone shelves w) all → All (λ w. IsDone shelves w) left × AreTaken shelves root

none_refused : (a b : Bool) → (a || b) ≡ false → (a ≡ false) × (b ≡ false)
none_refused true b e = absurd cc
none_refused false b e = (refl, e)

pub left_all : (shared : SharedFabric) (root : Pass LockedFabric Event) (all : List Worker) → IsRootOf shared.lock root × IsIdle root → kept root ≡ [] → All (λ w. IsReady shared w) all → HasWorkers root all
    → AreLeft shared root root all all false
left_all shared root all is none ready has = record {
  root_is = is;
  given_is = refl;
  ready = ready;
  workers_are = has;
  taken = λ e shelves done. (done, λ p k. let no : false ≡ true = sym (ap (has_kept p) none) ∙ k in absurd cc);
}

pub left_fewer : (shared : SharedFabric) (first root new : Pass LockedFabric Event) (all left rest : List Worker) (refused : Bool) (w : Worker) → AreLeft shared first root all left refused → left ≡ rest ++ w ∷ []
    → IsRootOf shared.lock new × IsIdle new → given new ≡ given root → kept new ≡ (w.port, own w.pass) ∷ kept root → AreLeft shared first new all rest (refused || w.refused)
left_fewer shared first root new all left rest refused w so_far is root_is same more = record {
  root_is = root_is;
  given_is = same ∙ so_far.given_is;
  ready = ready_front (λ v. IsReady shared v) rest left w is so_far.ready;
  workers_are = goes root new left rest w (own w.pass) so_far.workers_are is same more;
  taken = λ e shelves done.
      let none = none_refused refused w.refused e in
      let old = so_far.taken none.0 shelves done in
      (ready_front (λ v. IsDone shelves v) rest left w is old.0, taken_more shelves root new w.port (own w.pass) more (ready_last (λ v. IsDone shelves v) rest left w is old.0 none.1) old.1);
}
