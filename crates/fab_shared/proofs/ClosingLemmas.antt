-- A closed fabric has handled the frames on the shelves.
use Rattle.std.proofs.Common.{◌≡◌, ◌⊎◌, inl, inr, ⊎_elim, ℕ, ◌+◌, ◌≤◌, Bool, true, false, List, [], length, slice_get, Some, refl, sym, ap, ◌∙◌, subst, arith}
use Rattle.std.proofs.lemmas.Option.{slice_get_within}
use Rattle.window_records.specs.Reads.{batches_of}
use Rattle.window_records.specs.declared.shelf.Shelf.{Shelf}
use Rattle.fab_policy.specs.Journal.{followed}
use Rattle.fab_policy.specs.Legal.{HasPorts, of_port, numbered_from}
use Rattle.fab_policy.specs.Standing.{Contents}
use Rattle.fab_policy.specs.declared.event.Event.{Event}
use Rattle.fab_shared.specs.Frames.{port_of_event}
use Rattle.fab_shared.specs.Shared.{Closes}
use Rattle.fab_shared.specs.declared.locked.LockedFabric.{LockedFabric}
use Rattle.fab_turn.specs.declared.board.Pass.{Pass}
use Rattle.fab_turn.specs.Lock.{given, kept, AllJoined}
use Rattle.fab_turn.specs.Views as turn
use Rattle.fab_turn.specs.Views.{has_port, has_kept, kept_list}
use Rattle.fab_turn.proofs.PortLists.{is_false, kept_none}
use Rattle.window_records.specs.Reads.{first_index}
use Rattle.fab_shared.specs.Handled.{Handled, firsts_of}
use Rattle.fab_shared.specs.Workers.{AreGiven, AreTaken, IsTaken, frames_in}
use Rattle.fab_shared.proofs.EntryLemmas.{frames_of_port, ports_within}
use Rattle.fab_shared.proofs.FrameLemmas.{held_all}

module _ (first F : Contents) (root : Pass LockedFabric Event) (shelves : List Shelf) (closes : Closes first root F) (joined : AllJoined root) (out : AreGiven (length shelves) shelves root)
    (taken : AreTaken shelves root) where
  -- the list that is kept for a port
  kept_cases : (p : ℕ) → IsTaken shelves p (kept_list p (kept root)) ⊎ ((has_port p (given root) ≡ false) × (kept_list p (kept root) ≡ []))
  kept_cases p = by_kept (has_kept p (kept root)) refl
    where
      by_kept : (b : Bool) → has_kept p (kept root) ≡ b → IsTaken shelves p (kept_list p (kept root)) ⊎ ((has_port p (given root) ≡ false) × (kept_list p (kept root) ≡ []))
      by_kept true e = inl (taken p e)
      by_kept false e = inr (is_false (has_port p (given root)) (λ has. let no : true ≡ false = sym (joined p has) ∙ e in absurd cc), kept_none p (kept root) e)

  frames_are : (q : ℕ) (s : Shelf) → slice_get shelves q ≡ Some s → frames_in (kept_list (q + 1) (kept root)) ≡ numbered_from (first_index s) s.batch.items
  frames_are q s at = by_case (kept_cases (q + 1))
    where
      by_case : IsTaken shelves (q + 1) (kept_list (q + 1) (kept root)) ⊎ ((has_port (q + 1) (given root) ≡ false) × (kept_list (q + 1) (kept root) ≡ [])) →
          frames_in (kept_list (q + 1) (kept root)) ≡ numbered_from (first_index s) s.batch.items
      by_case (inl t) =
          let place : t.place ≡ q = let e = t.port_is in omega arith in
          let here : slice_get shelves q ≡ Some t.shelf = ap (slice_get shelves) (sym place) ∙ t.found in
          let same : t.shelf ≡ s = cc in
          t.frames ∙ ap (λ (x : Shelf). numbered_from (first_index x) x.batch.items) same
      by_case (inr none) =
          ⊎_elim (λ (empty : s.batch.items ≡ []). ap frames_in none.1 ∙ sym (ap (numbered_from (first_index s)) empty))
          (λ (has : has_port (q + 1) (given root) ≡ true). let no : true ≡ false = sym has ∙ none.0 in absurd cc)
          (out q s (slice_get_within shelves q s at) at)

  own_is : (q : ℕ) (s : Shelf) → slice_get shelves q ≡ Some s → of_port (1 + q) (followed [] closes.grown.later) ≡ numbered_from (first_index s) s.batch.items
  own_is q s at =
      ap (λ (p : ℕ). of_port p (followed [] closes.grown.later)) (let e : 1 + q ≡ q + 1 = omega arith in e)
      ∙ frames_of_port (q + 1) closes.grown.later closes.grown.frames
      ∙ ap frames_in (closes.kept_is (q + 1))
      ∙ frames_are q s at

  within : (p : ℕ) → ((1 ≤ p) × (p ≤ length shelves)) ⊎ (turn.of_port port_of_event p closes.grown.later ≡ [])
  within p = ⊎_elim
      (λ (t : IsTaken shelves p (kept_list p (kept root))). let below = slice_get_within shelves t.place t.shelf t.found in let e = t.port_is in inl (omega arith, omega arith))
      (λ (none : (has_port p (given root) ≡ false) × (kept_list p (kept root) ≡ [])). inr (closes.kept_is p ∙ none.1))
      (kept_cases p)

  pub handled : first.count ≡ length shelves → Handled (firsts_of shelves) (batches_of shelves) first F
  handled count = record {
    grown = closes.grown;
    ports = subst (λ (n : ℕ). HasPorts n (followed [] closes.grown.later)) (sym count) (ports_within (length shelves) closes.grown.later closes.grown.frames within);
    held = held_all closes.grown.later 1 shelves own_is;
  }
