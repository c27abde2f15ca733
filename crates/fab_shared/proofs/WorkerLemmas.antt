-- Ports and their workers, when a worker comes or goes.
use Rattle.std.proofs.lemmas.List.Elements.{All-append}
use Rattle.std.proofs.Common.{All, zero, suc, ◌≡◌, ℕ, ◌+◌, ◌<◌, eqb, true, List, [], ◌∷◌, ◌++◌, length, take, drop, get_or, inl, inr, ⊎_elim, sym, ap, ◌∙◌, subst, arith, length-append}
use Rattle.std.proofs.lemmas.List.{get_or_append_left}
use Rattle.std.proofs.Math.Seq.{get_or-append_seam, take-append_seam}
use mathlib.Core.Logic.{dite}
use native.Mathlib.Decide.{dec_lt}
use Rattle.fab_turn.specs.declared.board.Pass.{Pass}
use Rattle.fab_turn.specs.Views.{has_port, has_kept}
use Rattle.fab_turn.specs.Lock.{given, kept}
use Rattle.fab_turn.proofs.PortLists.{or_here, or_there, or_cases}
use Rattle.fab_policy.specs.declared.event.Event.{Event}
use Rattle.fab_shared.specs.declared.locked.LockedFabric.{LockedFabric}
use Rattle.fab_shared.specs.Workers.{HasWorkers}
use Rattle.fab_shared.specs.declared.worker.Worker.{Worker}

abbrev At : List Worker → ℕ → Type 0
At workers p = (k : ℕ) × (k < length workers) × ((d : Worker) → (get_or workers k d).port ≡ p)

-- a port was given out, and its worker came
pub comes : (old new : Pass LockedFabric Event) (workers : List Worker) (w : Worker) → HasWorkers old workers → given new ≡ w.port ∷ given old → kept new ≡ kept old → HasWorkers new (workers ++ w ∷ [])
comes old new workers w has is same p e =
    ⊎_elim
    (λ (h : w.port ≡ p). inr (length workers, omega (arith, length-append workers (w ∷ [])), λ d. ap (λ (x : Worker). x.port) (get_or-append_seam workers w [] d) ∙ h))
    (λ (h : has_port p (given old) ≡ true).
    ⊎_elim (λ (k : has_kept p (kept old) ≡ true). inl (ap (has_kept p) same ∙ k))
    (λ (a : At workers p). inr (a.0, (let lt = a.1 in omega (arith, length-append workers (w ∷ []))), λ d. ap (λ (x : Worker). x.port) (get_or_append_left workers (w ∷ []) d a.0 a.1) ∙ a.2 d))
    (has p h))
    (or_cases w.port p (has_port p (given old)) (sym (ap (has_port p) is) ∙ e))

-- the last worker was taken in
pub goes : (old new : Pass LockedFabric Event) (all workers : List Worker) (w : Worker) (l : List Event) → HasWorkers old all → all ≡ workers ++ w ∷ [] → given new ≡ given old → kept new ≡ (w.port, l) ∷ kept old → HasWorkers new workers
goes old new all workers w l has is same more p e =
    ⊎_elim (λ (k : has_kept p (kept old) ≡ true). inl (ap (has_kept p) more ∙ or_there (eqb w.port p) (has_kept p (kept old)) k))
    (λ (a : At all p).
    let len : length all ≡ length workers + 1 = ap length is ∙ length-append workers (w ∷ []) in
    let lt = a.1 in
    let there : (d : Worker) → (get_or (workers ++ w ∷ []) a.0 d).port ≡ p = λ d. subst (λ (xs : List Worker). (get_or xs a.0 d).port ≡ p) is (a.2 d) in
    dite (dec_lt a.0 (length workers))
    (λ below. inr (a.0, below, λ d. sym (ap (λ (x : Worker). x.port) (get_or_append_left workers (w ∷ []) d a.0 below)) ∙ there d))
    (λ above.
    let last : a.0 ≡ length workers = omega arith in
    let port : w.port ≡ p = sym (ap (λ (x : Worker). x.port) (get_or-append_seam workers w [] w)) ∙ (ap (λ (k : ℕ). (get_or (workers ++ w ∷ []) k w).port) (sym last) ∙ there w) in
    inl (ap (has_kept p) more ∙ or_here w.port p (has_kept p (kept old)) port)))
    (has p (sym (ap (has_port p) same) ∙ e))

-- the workers kept their ports
pub stay : (root : Pass LockedFabric Event) (old new : List Worker) → HasWorkers root old → length new ≡ length old → ((k : ℕ) (d : Worker) → k < length old → (get_or new k d).port ≡ (get_or old k d).port) → HasWorkers root new
stay root old new has len same p e =
    ⊎_elim (λ (k : has_kept p (kept root) ≡ true). inl k) (λ (a : At old p). inr (a.0, (let lt = a.1 in omega arith), λ d. same a.0 d a.1 ∙ a.2 d)) (has p e)

pub ready_more : (P : Worker → Type 0) (workers all : List Worker) (w : Worker) → all ≡ workers ++ w ∷ [] → All P workers → P w → All P all
ready_more P workers all w is h mine = subst (All P) (sym is) (All-append P workers (w ∷ []) h one)
  where
    one : All P (w ∷ [])
    one zero d lt = mine
    one (suc k) d lt = absurd (omega arith)

pub ready_front : (P : Worker → Type 0) (workers all : List Worker) (w : Worker) → all ≡ workers ++ w ∷ [] → All P all → All P workers
ready_front P workers all w is h k d lt =
    let len : length all ≡ length workers + 1 = ap length is ∙ length-append workers (w ∷ []) in
    subst P (ap (λ (xs : List Worker). get_or xs k d) is ∙ get_or_append_left workers (w ∷ []) d k lt) (h k d (omega arith))

pub ready_last : (P : Worker → Type 0) (workers all : List Worker) (w : Worker) → all ≡ workers ++ w ∷ [] → All P all → P w
ready_last P workers all w is h =
    let len : length all ≡ length workers + 1 = ap length is ∙ length-append workers (w ∷ []) in
    subst P (ap (λ (xs : List Worker). get_or xs (length workers) w) is ∙ get_or-append_seam workers w [] w) (h (length workers) w (omega arith))

-- what a `Vec` has after its slice was lent
pub lent : (old new : List Worker) (n : ℕ) → n ≡ length old → length new ≡ length old → take n (new ++ drop (length new) old) ≡ new
lent old new n is len = ap (λ (k : ℕ). take k (new ++ drop (length new) old)) (is ∙ sym len) ∙ take-append_seam new (drop (length new) old)
