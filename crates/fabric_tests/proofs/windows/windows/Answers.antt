use Rattle.std.proofs.Common.{List, length, sym, ap, subst, ◌∙◌}
use Rattle.window_records.specs.Ports.{AreReady}
use Rattle.window_records.specs.declared.shelf.Shelf.{Shelf}
use Rattle.window_records.proofs.SlotLemmas.{length-slots}
use Rattle.fabric_tests.proofs.windows.windows.Goals as goal

pub all_windows-requires-clause-count : goal.all_windows-requires-clause-count
all_windows-requires-clause-count c =
    let l = c.in_ok-shelves.ensures.looks c.args.config.now in
    ap length c.deref_mut.ensures.value ∙ l.count ∙ sym (ap length l.slots) ∙ length-slots c.first_looks.new.ins

pub all_windows-requires-clause-slots : goal.all_windows-requires-clause-slots
all_windows-requires-clause-slots c = (c.in_ok-shelves.ensures.looks c.args.config.now).slots

pub all_windows-requires-clause-ready : goal.all_windows-requires-clause-ready
all_windows-requires-clause-ready c =
    subst (λ (l : List Shelf). AreReady c.args.config.now 0 c.first_looks.new.ins l c.first_looks.new.budget) (sym c.deref_mut.ensures.value) (c.in_ok-shelves.ensures.looks c.args.config.now).ready
