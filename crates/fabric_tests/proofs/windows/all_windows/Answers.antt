use Rattle.std.proofs.Common.{◌≡◌, ℕ, [], ◌∷◌, true, false, None, ◌^◌, ◌-◌, sym, ◌∙◌, arith}
use Rattle.std.specs.Prelude.{nat_lt}
use Rattle.std.proofs.lemmas.Bool.{le-ltb}
use Rattle.fab_base.specs.Seen.{Seen}
use Rattle.window_records.specs.Looks.{MOST_SPAN}
use Rattle.window_records.specs.Ports.{walk_at}
use Rattle.window_records.proofs.FirstLemmas.{none_below}
use Rattle.window_records.proofs.SlotLemmas.{same_length}
use Rattle.fabric_tests.proofs.windows.all_windows.Goals as goal

pub take_windows-requires-clause-ready : goal.take_windows-requires-clause-ready
take_windows-requires-clause-ready c =
    let i = c.windows.invariant in
    (c.looks_to_come.ensures.next c.args.config.now 0 c.in-Some.window c.windows.ins c.windows.shelves c.windows.budget i.count i.ready c.in-Some.ensures.least).2

-- a window isn't too late for itself
in_time : (w : ℕ) → nat_lt MOST_SPAN (w - w) ≡ false
in_time w = le-ltb MOST_SPAN (w - w) (omega arith)

-- what is seen of the depot
captures : Seen
captures = record {
  told = false;
  knows = λ m. true;
  input = λ s. true;
  output = λ s. true;
  name = λ s. s ∷ [];
  file = λ m. None;
  left = λ s. [];
  read_faults = λ m. 2 ^ 64 - 1;
  write_faults = λ m. 2 ^ 64 - 1;
}

pub windows-smaller : goal.windows-smaller
unfolding captures
windows-smaller c =
    let i = c.windows.invariant in
    let t = c.in_ok-take_windows.ensures.takes c.in-Some.window (in_time c.in-Some.window) in
    (c.windows_move_on.ensures c.args.config.now c.in-Some.window (walk_at captures c.windows.ins c.windows.shelves c.windows.budget)
    (walk_at captures c.take_windows.new.ins c.take_windows.new.shelves c.take_windows.new.budget) i.count
    (same_length c.windows.ins c.take_windows.new.ins t.slots) t.count c.in-Some.ensures.least t.took t.ready t.spent).fewer

pub windows-preserved : goal.windows-preserved
windows-preserved c =
    let i = c.windows.invariant in
    let t = c.in_ok-take_windows.ensures.takes c.in-Some.window (in_time c.in-Some.window) in
    record {
      slots = t.slots ∙ i.slots;
      count = t.count ∙ i.count ∙ sym (same_length c.windows.ins c.take_windows.new.ins t.slots);
      ready = λ q j s at. ((t.ready q j s at).0, none_below c.args.config.now s.next);
    }
