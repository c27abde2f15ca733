-- A window that is gathered, which may start too long after the first.
use Rattle.std.proofs.Common.{◌≡◌, ℕ, ◌-◌, List, length, slice_get, Some, Err, refl, ap, arith, true}
use Rattle.std.specs.Prelude.{nat_lt}
use Rattle.fab_base.specs.Seen.{Seen, Nothing}
use Rattle.fab_base.proofs.EndingLemmas.{uses_none}
use Rattle.fab_config.specs.Settings.{Settings}
use Rattle.window_records.specs.Looks.{MOST_SPAN}
use Rattle.pcap_file.specs.declared.Budget.{Budget}
use Rattle.window_records.specs.declared.shelf.Input.{Input}
use Rattle.window_records.specs.declared.shelf.Shelf.{Shelf}
use Rattle.pcap_file.specs.declared.fault.LimitKind.TheVariants as limit
use Rattle.pcap_file.specs.declared.fault.GatherFault.TheVariants as fault
use Rattle.window_records.specs.First.{IsNextWindow}
use Rattle.window_records.specs.Laws.{LateEnds}
use Rattle.fab_base.specs.Slots.{NameIn}
use Rattle.window_records.specs.Ports.{slots_of, AreReady, walk_at}
use Rattle.window_records.specs.Gather.{Gathers}
use Rattle.window_records.proofs.LeavesLemmas.{waits_leaves}
use Rattle.window_records.proofs.SlotLemmas.{some_is}

module _ (c : Settings) (first w : ℕ) where
  pub gathers_late : (late : LateEnds) (d : Seen) (ins : List Input) (shelves : List Shelf) (left : Budget) → length shelves ≡ length ins → AreReady c w ins shelves left →
      IsNextWindow c shelves (Some w) → nat_lt MOST_SPAN (w - first) ≡ true → Gathers c first w (walk_at d ins shelves left) (walk_at d ins shelves left) (Err (fault.Limit limit.Span))
  gathers_late late d ins shelves left count ready next is = record {
    uses = uses_none (NameIn d (slots_of ins)) Nothing d;
    slots = refl;
    count = refl;
    ready = tt;
    took = tt;
    spent = record { frames = omega arith; bytes = omega arith };
    takes = record { slots = refl; bytes = omega arith; frames = omega arith };
    leaves = λ q i i' s s' first now.
        let input = some_is (slice_get ins q) i' i now.input first.input in
        (ap (λ (x : Input). x.slot) input, waits_leaves c w d d i i' s s' input (some_is (slice_get shelves q) s' s now.shelf first.shelf) refl);
    looks = λ told. tt;
    stops = λ told stops. late c first w w d ins shelves left count ready next is;
    fails = λ memory span. absurd (span refl);
    late = (λ x. is, λ x. refl);
    same = λ x. (refl, refl, refl, refl);
  }
