use Rattle.std.proofs.Common.{[], Err, refl, sym, subst}
use Rattle.fab_base.specs.Slots.{NameIn}
use Rattle.window_records.specs.Ports.{slots_of}
use Rattle.window_records.proofs.LeavesLemmas.{takes_none}
use Rattle.window_records.proofs.UsesLemmas.{uses_touches}
use Rattle.fab_replay.specs.Check.{task_from}
use Rattle.fab_replay.specs.FrontFrom.{now_from}
use Rattle.fab_replay.specs.Windows.{Ends, scene_of}
use Rattle.fab_replay.specs.declared.fault.CheckFault.TheVariants as fault
use Rattle.fab_replay.proofs.BeginLemmas.{ends_looks, going_begin}
use Rattle.fab_replay.proofs.CountLemmas.{counts_gathering, counts_none}
use Rattle.fab_replay.proofs.GoLemmas.{ended_refused}
use Rattle.fab_replay.proofs.LeaveLemmas.{along_none, left_line}
use Rattle.fab_replay.proofs.LineLemmas.{behind_first}
use Rattle.fab_replay.proofs.RemainLemmas.{stays_refused}
use Rattle.fab_replay.proofs.ResultLemmas.{not_ok, told_on}
use Rattle.fab_replay.proofs.SlotsLemmas.{inputs_front}
use Rattle.fab_replay.proofs.check.look_first.Goals as goal

pub returns-in_err-owed : goal.returns-in_err-owed
returns-in_err-owed g c =
    let seen = g.D.Depot.seen in
    let F = c.args.fabric.now in
    let p = c.first_place-place.result in
    record {
      begins = λ o state firsts.
          let k = task_from F.settings o c.args.budget.now c.args.ins.now (seen c.args.depot.now) c.args.written.now.journal.now c.args.written.now.outs.now in
          let along = along_none k F p refl state c.requires.nothing.0 c.requires.nothing.1 (behind_first (now_from o) _ p c.first_place-place.ensures.behind) in
          told_on c.from_residual.result fault.Memory _ _ c.from_residual.ensures.1
          (record { checks = ended_refused k F; leaves = left_line k F fault.Memory tt (stays_refused (scene_of k) k.start.seen.told [] F p along) });
      shelves = not_ok c.from_residual.result fault.Memory _ c.from_residual.ensures.1;
      touches = not_ok c.from_residual.result fault.Memory _ c.from_residual.ensures.1;
      read = not_ok c.from_residual.result fault.Memory _ c.from_residual.ensures.1;
      takes = takes_none c.args.ins.now c.args.budget.now;
      counts = counts_none (seen c.args.depot.now) c.from_residual.result;
    }

pub first_looks-requires-clause-ports : goal.first_looks-requires-clause-ports
first_looks-requires-clause-ports g c = c.requires.ports.1

pub first_looks-requires-clause-inputs : goal.first_looks-requires-clause-inputs
first_looks-requires-clause-inputs g c = inputs_front (slots_of c.args.ins.now) c.args.written.now.outs.now (g.D.Depot.seen c.args.depot.now) c.requires.inputs

pub first_looks-requires-clause-fresh : goal.first_looks-requires-clause-fresh
first_looks-requires-clause-fresh g c = c.requires.fresh

pub returns-in-Err : goal.returns-in-Err
returns-in-Err g c =
    let seen = g.D.Depot.seen in
    let F = c.args.fabric.now in
    let p = c.first_place-place.result in
    let t = c.in-Err.ensures.looks F.settings in
    record {
      begins = λ o state firsts.
          let k = task_from F.settings o c.args.budget.now c.args.ins.now (seen c.args.depot.now) c.args.written.now.journal.now c.args.written.now.outs.now in
          let behind = behind_first (now_from o) _ p c.first_place-place.ensures.behind in
          subst (λ e. Ends k (seen c.first_looks.new.depot) F (Err e)) (sym c.fault_of.ensures)
          (ends_looks k _ F p c.requires.inputs c.requires.ports.1 firsts c.in-Err.fault t behind (along_none k F p refl state c.requires.nothing.0 c.requires.nothing.1 behind));
      shelves = tt;
      touches = tt;
      read = tt;
      takes = t.takes;
      counts = counts_gathering _ (seen c.args.depot.now) (seen c.first_looks.new.depot) c.in-Err.fault c.fault_of.result c.fault_of.ensures t.uses;
    }

pub returns : goal.returns
returns g c =
    let seen = g.D.Depot.seen in
    let F = c.args.fabric.now in
    let p = c.first_place-place.result in
    let t = c.in-Ok.ensures.looks F.settings in
    record {
      begins = λ o state firsts early.
          let k = task_from F.settings o c.args.budget.now c.args.ins.now (seen c.args.depot.now) c.args.written.now.journal.now c.args.written.now.outs.now in
          going_begin k _ F p c.requires.inputs c.requires.ports.1 firsts c.in-Ok.shelves t c.in_ok-owed.owed c.in_ok-owed.ensures c.requires.outputs
          c.next_window.result c.config.result.now c.deref.result.now c.unwrap_or-first.result c.next_window.ensures.least c.config.ensures c.deref.ensures.value c.unwrap_or-first.ensures
          refl c.requires.count state c.requires.nothing.0 c.requires.nothing.1 early (behind_first (now_from o) _ p c.first_place-place.ensures.behind) c.first_place-place.ensures.inside;
      shelves = t.count;
      touches = uses_touches (NameIn (seen c.args.depot.now) (slots_of c.args.ins.now)) (seen c.args.depot.now) (seen c.first_looks.new.depot) t.uses;
      read = t.read;
      takes = t.takes;
      counts = t.uses.counts;
    }
