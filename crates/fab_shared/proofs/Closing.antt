-- What was joined is what the fabric has grown by.
use Rattle.std.proofs.Common.{◌≡◌, ℕ, List, ◌++◌, length, drop, sym, ap, ◌∙◌, subst}
use Rattle.std.proofs.Math.Seq.{drop-append_seam}
use mathlib.Core.List.{IsPrefix}
use Rattle.fab_policy.specs.Standing.{Contents}
use Rattle.fab_states.specs.Went.{Grown}
use Rattle.fab_policy.specs.declared.event.Event.{Event}
use Rattle.fab_turn.specs.declared.board.Pass.{Pass}
use Rattle.fab_turn.specs.Lock.{seen, kept}
use Rattle.fab_turn.specs.Views.{of_port, kept_list}
use Rattle.fab_shared.specs.Frames.{frames_of, port_of_event}
use Rattle.fab_shared.specs.Shared.{Closes}
use Rattle.fab_shared.specs.declared.locked.LockedFabric.{LockedFabric}
use Rattle.fab_shared.proofs.Entries.{frames_grown}

one_rest : (front one other all : List Event) → all ≡ front ++ one → all ≡ front ++ other → one ≡ other
one_rest front one other all p q = sym (drop-append_seam front one) ∙ (ap (λ (l : List Event). drop (length front) l) (sym p ∙ q) ∙ drop-append_seam front other)

pub closes : (first F : Contents) (root : Pass LockedFabric Event) (since : List Event) → Grown first F → frames_of F.events ≡ frames_of first.events ++ since
    → ((port : ℕ) → of_port port_of_event port since ≡ kept_list port (kept root)) → IsPrefix (seen root) (frames_of F.events) → Closes first root F
closes first F root since g is lists begins =
    let rest = one_rest (frames_of first.events) since g.later (frames_of F.events) is (frames_grown first F g) in
    record {
      grown = g;
      kept_is = subst (λ (l : List Event). (port : ℕ) → of_port port_of_event port l ≡ kept_list port (kept root)) rest lists;
      begins = subst (λ (l : List Event). IsPrefix (seen root) l) (frames_grown first F g) begins;
    }
