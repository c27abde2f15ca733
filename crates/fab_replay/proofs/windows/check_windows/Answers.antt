use Rattle.std.proofs.Common.{◌∙◌, ◌%◌, Some, None, Ok, Err, length, refl, sym, ap, subst, arith}
use Rattle.fab_config.specs.Settings.{Settings}
use Rattle.window_records.proofs.LeavesLemmas.{takes_none, takes_then}
use Rattle.window_records.proofs.SlotLemmas.{same_length}
use Rattle.window_records.specs.First.{IsNextWindow}
use Rattle.window_records.specs.Ports.{AreInputs, AreReady}
use Rattle.fab_replay.specs.Lines.{IsInside}
use Rattle.fab_replay.specs.Owed.{AreMany}
use Rattle.fab_replay.specs.Windows.{Ends}
use Rattle.fab_replay.proofs.CountLemmas.{counts_gathering, counts_on, counts_then}
use Rattle.fab_replay.proofs.GoLemmas.{ends_gathering, gathers_as, inputs_now, next_here, outputs_b, turned, window_here}
use Rattle.fab_replay.proofs.ResultLemmas.{told_on}
use Rattle.fab_replay.proofs.windows.check_windows.Goals as goal

pub windows-init : goal.windows-init
windows-init g c = record { turns = λ k same going. going; settings = refl; count = refl; takes = takes_none c.args.ins.now c.args.budget.now; counts = (λ m. refl, λ m. refl) }

-- ---- gathering the window

pub gather-requires : goal.gather-requires
gather-requires g c =
    let k = c.requires.going.0 in
    let at = c.windows.invariant.turns k c.requires.going.1 c.requires.going.2 in
    let h = window_here c.laws_of_windows.ensures k c.windows.from _ at _ c.config.ensures c.in-Some.window c.in-Some.ensures.least in
    let same = same_length k.start.ins c.windows.ins h.going.walked.slots in
    let few = h.going.ports in
    record {
      count = h.going.walked.count;
      ports = omega (arith, same, few);
      inputs = inputs_now c.laws_of_windows.ensures k _ _ h.going;
      ready = subst (λ s. AreReady s c.in-Some.window c.windows.ins c.windows.shelves c.windows.budget) (sym (c.config-config.ensures ∙ h.going.settings_)) h.going.walked.ready;
      next = subst (λ s. IsNextWindow s c.windows.shelves (Some c.in-Some.window)) (c.config.ensures ∙ sym c.config-config.ensures) c.in-Some.ensures.least;
    }

pub returns-in-Err : goal.returns-in-Err
returns-in-Err g c =
    let seen = g.D.Depot.seen in
    let l = c.windows in
    let n = c.gather.new in
    let t = c.in-Err.ensures.gathers in
    record {
      turns = λ k same start.
          let at = l.invariant.turns k same start in
          let h = window_here c.laws_of_windows.ensures k c.windows.from _ at _ c.config.ensures c.in-Some.window c.in-Some.ensures.least in
          subst (λ e. Ends k (seen n.depot) l.fabric (Err e)) (sym c.fault_of.ensures)
          (ends_gathering c.laws_of_windows.ensures k c.in-Some.window _ h.going _ c.in-Err.fault (gathers_as (c.config-config.ensures ∙ h.going.settings_) t));
      settings = l.invariant.settings;
      count = l.invariant.count;
      takes = takes_then c.args.ins.now l.ins n.ins c.args.budget.now l.budget n.budget l.invariant.takes t.takes;
      counts = counts_then {T = Unit {0}} (seen c.args.depot.now) (seen l.depot) (seen n.depot) (Err c.fault_of.result) l.invariant.counts
          (counts_gathering _ (seen l.depot) (seen n.depot) c.in-Err.fault c.fault_of.result c.fault_of.ensures t.uses);
    }

-- ---- checking its lines

pub check_gathered-requires : goal.check_gathered-requires
check_gathered-requires g c =
    let k = c.requires.going.0 in
    let at = c.windows.invariant.turns k c.requires.going.1 c.requires.going.2 in
    let h = window_here c.laws_of_windows.ensures k c.windows.from _ at _ c.config.ensures c.in-Some.window c.in-Some.ensures.least in
    let same = c.requires.going.1 in
    let t = gathers_as (c.config-config.ensures ∙ h.going.settings_) c.in-Ok.ensures.gathers in
    let ports = same_length k.start.ins c.windows.ins h.going.walked.slots in
    let few = h.going.ports in
    let count = h.going.walked.count in
    let on = t.count in
    let early = h.early in
    record {
      before = record {
        inside = subst (λ b. IsInside b c.windows.course.place) same.journal h.going.inside;
        early = omega (arith, early);
        start = ap (λ (x : Settings). c.in-Some.window % x.window) (sym c.config.ensures) ∙ c.in-Some.ensures.start;
        order = h.order;
        idle = h.going.idle;
        few = omega (arith, ports, few, count, on);
        count = h.going.count_ ∙ sym (on ∙ count ∙ ports);
      };
      inputs = subst (AreInputs (g.D.Depot.seen c.gather.new.depot)) same.outputs (outputs_b c.laws_of_windows.ensures k c.in-Some.window _ h.going _ t h.next);
      many = subst (λ o. AreMany (length o) c.windows.course.owed) same.outputs h.going.many;
    }

pub returns-in_err-check_gathered : goal.returns-in_err-check_gathered
returns-in_err-check_gathered g c =
    let seen = g.D.Depot.seen in
    let l = c.windows in
    let n = c.check_gathered.new in
    let e = c.in_err-check_gathered.ensures in
    let f = c.in_err-check_gathered.field-0.0 in
    let r = c.from_residual.result in
    let t = c.in-Ok.ensures.gathers in
    record {
      turns = λ k same start.
          let at = l.invariant.turns k same start in
          let h = window_here c.laws_of_windows.ensures k c.windows.from _ at _ c.config.ensures c.in-Some.window c.in-Some.ensures.least in
          told_on r f _ _ c.from_residual.ensures.1
          (turned c.laws_of_windows.ensures k c.in-Some.window _ h.going _ (gathers_as (c.config-config.ensures ∙ h.going.settings_) t) h.next n.fabric n.course (seen n.depot) _ same (Err f) e.checks e.left e.touches e.cause e.many e.advances e.first);
      settings = e.advances.settings ∙ l.invariant.settings;
      count = e.advances.count ∙ l.invariant.count;
      takes = takes_then c.args.ins.now l.ins c.gather.new.ins c.args.budget.now l.budget c.gather.new.budget l.invariant.takes t.takes;
      counts = counts_then (seen c.args.depot.now) (seen l.depot) (seen n.depot) r l.invariant.counts
          (counts_then (seen l.depot) (seen c.gather.new.depot) (seen n.depot) r t.uses.counts (counts_on (seen c.gather.new.depot) (seen n.depot) f r c.from_residual.ensures.1 e.counts));
    }

pub windows-preserved : goal.windows-preserved
windows-preserved g c =
    let l = c.windows in
    let n = c.check_gathered.new in
    let e = c.in_ok-check_gathered.ensures in
    let gathered = c.in-Ok.ensures.gathers in
    record {
      turns = λ k same start.
          let at = l.invariant.turns k same start in
          let h = window_here c.laws_of_windows.ensures k c.windows.from _ at _ c.config.ensures c.in-Some.window c.in-Some.ensures.least in
          let t = gathers_as (c.config-config.ensures ∙ h.going.settings_) gathered in
          turned c.laws_of_windows.ensures k c.in-Some.window _ h.going _ t h.next n.fabric n.course (g.D.Depot.seen n.depot) _ same (Ok tt) e.checks e.left e.touches e.cause e.many e.advances e.first;
      settings = e.advances.settings ∙ l.invariant.settings;
      count = e.advances.count ∙ l.invariant.count;
      takes = takes_then c.args.ins.now l.ins c.gather.new.ins c.args.budget.now l.budget c.gather.new.budget l.invariant.takes gathered.takes;
      counts = (
        λ m. e.counts.0 m ∙ gathered.uses.counts.0 m ∙ l.invariant.counts.0 m,
        λ m. e.counts.1 m ∙ gathered.uses.counts.1 m ∙ l.invariant.counts.1 m,
      );
    }

pub windows-smaller : goal.windows-smaller
windows-smaller g c =
    let k = c.requires.going.0 in
    let at = c.windows.invariant.turns k c.requires.going.1 c.requires.going.2 in
    let h = window_here c.laws_of_windows.ensures k c.windows.from _ at _ c.config.ensures c.in-Some.window c.in-Some.ensures.least in
    let le = h.later in
    let lt = h.early in
    omega (arith, le, lt)

-- ---- no window is left

pub returns : goal.returns
returns g c =
    let l = c.windows.invariant in
    record {
      turns = λ k same start.
          let at = l.turns k same start in
          (c.windows.from, at, next_here c.laws_of_windows.ensures k c.windows.from _ at _ c.config.ensures None c.in_default.ensures.least);
      settings = l.settings;
      count = l.count;
      takes = l.takes;
      counts = l.counts;
    }

-- ---- the number behind the window

pub overflow_add-from : goal.overflow_add-from
overflow_add-from g c =
    let k = c.requires.going.0 in
    let at = c.windows.invariant.turns k c.requires.going.1 c.requires.going.2 in
    let h = window_here c.laws_of_windows.ensures k c.windows.from _ at _ c.config.ensures c.in-Some.window c.in-Some.ensures.least in
    let lt = h.early in
    omega (arith, lt)
