use Rattle.std.proofs.Common.{IsTrue, sym, ◌∙◌, subst}
use Rattle.fab_base.specs.Places.{name_at}
use Rattle.fabric_tool.specs.Command.{Run, run_of, input_at, port_count}
use Rattle.fabric_tool.specs.Ends.{Holds}
use Rattle.run_files.proofs.NameLemmas.{length-counted}
use Rattle.fab_base.proofs.EndingLemmas.{none_then}
use Rattle.fabric_tool.proofs.RanLemmas.{not_opened, some_ports, same_count, one_a_port, given_as, runs_as, windows_ended}
use Rattle.fabric_tool.proofs.TouchLemmas.{own_then, own_read, own_written, windows_own}
use Rattle.fabric_tool.proofs.UseLemmas.{used_touches}
use Rattle.fabric_tool.proofs.running.run.Goals as goal

pub returns-in-Err-clause-touches : goal.returns-in-Err-clause-touches
returns-in-Err-clause-touches g c = own_read (Run (run_of c.args.words.now)) _ _ _ (λ m x. x) (used_touches c.in-Err.ensures.prepares.uses)

pub open_outputs-requires-clause-known : goal.open_outputs-requires-clause-known
open_outputs-requires-clause-known g c = λ i some within. subst IsTrue (sym (c.in-Ok.ensures.prepares.uses.touches.knows (name_at c.args.words.now i))) (c.requires.known i some within)

pub returns-in-Err-open_outputs : goal.returns-in-Err-open_outputs
returns-in-Err-open_outputs g c =
    let seen = g.D.Depot.seen in
    let p = c.in-Ok.ensures.prepares in
    let opens = c.in-Err-open_outputs.ensures.opens in
    record {
      holds = not_opened (run_of c.args.words.now) c.in-Ok.ready.fabric.settings (seen c.args.depot.now) (seen c.prepare.new.depot) (seen c.open_outputs.new.depot) c.in-Ok.ready.ins.items p.config p.uses p.heads opens.opens
          c.records_come_later.ensures.nothing opens.cause;
      touches = let k = Run (run_of c.args.words.now) in own_then k _ _ _ (own_read k _ _ _ (λ m x. x) (used_touches p.uses)) (own_written k _ _ opens.opens.touches);
    }

pub run_windows-requires-clause-ports : goal.run_windows-requires-clause-ports
run_windows-requires-clause-ports g c κs within =
    let opens = c.in-Ok-open_outputs.ensures.opens in
    some_ports c.args.words.now c.requires.run _ _ _ c.in-Ok.ensures.prepares.heads opens.opens opens.slots c.deref_mut.ensures.value c.as_slice.ensures.value

pub run_windows-requires-clause-outputs : goal.run_windows-requires-clause-outputs
run_windows-requires-clause-outputs g c κs within =
    let opens = c.in-Ok-open_outputs.ensures.opens in
    same_count c.args.words.now c.requires.run _ _ _ c.in-Ok.ensures.prepares.heads opens.opens opens.slots c.deref_mut.ensures.value c.as_slice.ensures.value

pub run_windows-requires-clause-given : goal.run_windows-requires-clause-given
run_windows-requires-clause-given g c κs within =
    let opens = c.in-Ok-open_outputs.ensures.opens in
    given_as c.args.words.now c.requires.run _ _ _ c.in-Ok.ensures.prepares.heads opens.opens opens.slots c.deref_mut.ensures.value c.as_slice.ensures.value

pub run_windows-requires-clause-count : goal.run_windows-requires-clause-count
run_windows-requires-clause-count g c κs within =
    let opens = c.in-Ok-open_outputs.ensures.opens in
    one_a_port c.args.words.now c.requires.run _ _ _ c.in-Ok.ensures.prepares.heads opens.opens opens.slots c.deref_mut.ensures.value c.as_slice.ensures.value
    c.in-Ok.ready.fabric.count (c.in-Ok.ensures.prepares.fabric.count ∙ length-counted (input_at c.args.words.now) 0 (port_count c.args.words.now))

pub returns : goal.returns
returns g c =
    let seen = g.D.Depot.seen in
    let k = run_of c.args.words.now in
    let old = seen c.args.depot.now in
    let m = seen c.prepare.new.depot in
    let a = seen c.open_outputs.new.depot in
    let z = seen c.run_windows.new.depot in
    let p = c.in-Ok.ensures.prepares in
    let opens = c.in-Ok-open_outputs.ensures.opens in
    record {
      holds = subst (Holds (Run k) old z) (sym c.ran.ensures)
          (windows_ended c.args.words.now c.requires.run c.in-Ok.ready.fabric.settings old m a z c.in-Ok.ready.ins.items c.in-Ok-open_outputs.outputs.journal c.in-Ok-open_outputs.outputs.outs.items c.in-Ok.ready.budget
          p.fabric.range c.legal_is_safe.ensures p.config p.uses p.heads opens.opens opens.slots p.left.0 p.left.1 (none_then old m a p.uses.counts (opens.opens.reads, opens.counts))
          c.run_windows.result (runs_as c.deref_mut.ensures.value c.as_slice.ensures.value c.run_windows.ensures.runs));
      touches = windows_own c.args.words.now c.requires.run old m a z c.in-Ok.ready.ins.items c.in-Ok-open_outputs.outputs.journal c.in-Ok-open_outputs.outputs.outs.items p.uses p.heads opens.opens opens.slots
          (runs_as c.deref_mut.ensures.value c.as_slice.ensures.value c.run_windows.ensures.runs);
    }
