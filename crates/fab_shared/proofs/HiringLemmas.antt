-- Ports are given out, and workers come.
use Rattle.std.proofs.Common.{◌≡◌, ◌⊎◌, inl, inr, ⊎_elim, ℕ, ◌+◌, ◌==◌, ◌<◌, false, true, List, [], ◌∷◌, ◌++◌, slice_get, Some, refl, sym, ap, ◌∙◌, subst, arith, length-append}
use Rattle.std.proofs.lemmas.Bool.{cases_order}
use Rattle.std.proofs.lemmas.Option.{slice_get_within}
use Rattle.window_records.specs.declared.shelf.Shelf.{Shelf}
use Rattle.fab_policy.specs.declared.event.Event.{Event}
use Rattle.fab_shared.specs.declared.locked.LockedFabric.{LockedFabric}
use Rattle.fab_shared.specs.declared.shared.SharedFabric.{SharedFabric}
use Rattle.fab_turn.specs.declared.board.Pass.{Pass}
use Rattle.fab_turn.specs.Lock.{own, given, kept, IsRootOf, IsIdle}
use Rattle.fab_turn.specs.Views.{has_port}
use Rattle.fab_turn.proofs.PortLists.{or_here, or_there, or_not}
use Rattle.fab_shared.specs.Workers.{IsReady, IsNew, AreGiven, AreHired}
use Rattle.fab_shared.specs.declared.worker.Worker.{Worker}
use Rattle.fab_shared.proofs.WorkerLemmas.{comes, ready_more}

-- nobody was hired yet
pub hired_none : (shared : SharedFabric) (shelves : List Shelf) (root : Pass LockedFabric Event) → IsRootOf shared.lock root × IsIdle root → given root ≡ [] → kept root ≡ [] → AreHired shared shelves 0 root []
hired_none shared shelves root is none kept_none = record {
  root_is = is;
  none_kept = kept_none;
  few = omega arith;
  ready = λ k d lt. absurd (omega arith);
  fresh = λ k d lt. absurd (omega arith);
  workers_are = λ p e. let no : false ≡ true = sym (ap (has_port p) none) ∙ e in absurd cc;
  free = λ p lt. ap (has_port p) none;
  out = λ q s lt at. absurd (omega arith);
}

-- the next port has no frame
module _ (shared : SharedFabric) (shelves : List Shelf) (k : ℕ) (root : Pass LockedFabric Event) (workers : List Worker) (so_far : AreHired shared shelves k root workers)
    (s : Shelf) (at : slice_get shelves k ≡ Some s) where
  out_passed : s.batch.items ≡ [] → AreGiven (k + 1) shelves root
  out_passed none q t lt has = by_order (cases_order q k)
    where
      by_order : (q ≡ k) ⊎ ((q < k) ⊎ (k < q)) → (t.batch.items ≡ []) ⊎ (has_port (q + 1) (given root) ≡ true)
      by_order (inl same) = let here : slice_get shelves q ≡ Some s = ap (slice_get shelves) same ∙ at in let shelf : s ≡ t = cc in inl (ap (λ (x : Shelf). x.batch.items) (sym shelf) ∙ none)
      by_order (inr (inl before)) = so_far.out q t before has
      by_order (inr (inr behind)) = absurd (omega arith)

  pub hired_passed : s.batch.items ≡ [] → AreHired shared shelves (k + 1) root workers
  hired_passed none = record {
    root_is = so_far.root_is;
    none_kept = so_far.none_kept;
    few = let f = so_far.few in omega arith;
    ready = so_far.ready;
    fresh = so_far.fresh;
    workers_are = so_far.workers_are;
    free = λ p lt. so_far.free p (omega arith);
    out = out_passed none;
  }

  -- the next port was given out to a worker
  module _ (new : Pass LockedFabric Event) (w : Worker) (root_is : IsRootOf shared.lock new × IsIdle new) (given_is : given new ≡ w.port ∷ given root) (kept_is : kept new ≡ kept root)
      (port : w.port ≡ k + 1) where
    out_more : AreGiven (k + 1) shelves new
    out_more q t lt has = by_order (cases_order q k)
      where
        by_order : (q ≡ k) ⊎ ((q < k) ⊎ (k < q)) → (t.batch.items ≡ []) ⊎ (has_port (q + 1) (given new) ≡ true)
        by_order (inl same) = inr (ap (has_port (q + 1)) given_is ∙ or_here w.port (q + 1) (has_port (q + 1) (given root)) (omega arith))
        by_order (inr (inl before)) = ⊎_elim (λ (none : t.batch.items ≡ []). inl none) (λ (there : has_port (q + 1) (given root) ≡ true). inr (ap (has_port (q + 1)) given_is ∙ or_there (w.port == q + 1) (has_port (q + 1) (given root)) there)) (so_far.out q t before has)
        by_order (inr (inr behind)) = absurd (omega arith)

    pub hired_more : IsReady shared w → own w.pass ≡ [] → AreHired shared shelves (k + 1) new (workers ++ w ∷ [])
    hired_more is_ready fresh = record {
      root_is = root_is;
      none_kept = kept_is ∙ so_far.none_kept;
      few = let f = so_far.few in omega (arith, length-append workers (w ∷ []));
      ready = ready_more (λ v. IsReady shared v) workers (workers ++ w ∷ []) w refl so_far.ready is_ready;
      fresh = ready_more (λ v. IsNew shelves v) workers (workers ++ w ∷ []) w refl so_far.fresh (fresh, (let within = slice_get_within shelves k s at in omega arith));
      workers_are = comes root new workers w so_far.workers_are given_is kept_is;
      free = λ p lt. ap (has_port p) given_is ∙ or_not w.port p (has_port p (given root)) (λ same. absurd (omega arith)) (so_far.free p (omega arith));
      out = out_more;
    }

-- the same ports are out
pub out_same : (k : ℕ) (shelves : List Shelf) (old new : Pass LockedFabric Event) → given new ≡ given old → AreGiven k shelves old → AreGiven k shelves new
out_same k shelves old new same out q s lt at = subst (λ (ps : List ℕ). (s.batch.items ≡ []) ⊎ (has_port (q + 1) ps ≡ true)) (sym same) (out q s lt at)
