use Rattle.std.proofs.Common.{◌+◌, ◌<◌, [], sym, subst, arith}
use Rattle.std.specs.Prelude.{map}
use Rattle.fab_base.specs.Counting.{counting}
use Rattle.side_runs.specs.Sides.{side_count, output_at}
use Rattle.run_files.proofs.OpenLemmas.{OpenedSoFar, opened_none}
use Rattle.side_runs.proofs.PortLoops.{out_as, output_more, output_failed, opened_count}
use Rattle.side_runs.proofs.outputs.open_outputs.Goals as goal

pub loop-port-init : goal.loop-port-init
loop-port-init g c =
    let a = g.D.Depot.seen c.args.depot.now in
    subst (λ l. OpenedSoFar [] a a l) (sym c.new-outs.ensures) (opened_none a)

pub add_slot-requires : goal.add_slot-requires
add_slot-requires g c =
    let seen = g.D.Depot.seen in
    let lt : c.loop-port.port < side_count c.args.sides.now = omega (arith, c.loop-port-test.true, c.side_count-port-end.ensures.value) in
    let count = opened_count c.args.sides.now c.loop-port.port lt (seen c.args.depot.now) (seen c.loop-port.depot) (seen c.open_out.new.self) c.loop-port.outs.items c.loop-port.invariant in
    omega (arith, lt, count, c.requires.few)

pub loop-port-preserved : goal.loop-port-preserved
loop-port-preserved g c =
    let seen = g.D.Depot.seen in
    let lt : c.loop-port.port < side_count c.args.sides.now = omega (arith, c.loop-port-test.true, c.side_count-port-end.ensures.value) in
    subst (λ l. OpenedSoFar (map (output_at c.args.sides.now) (counting 0 (c.loop-port.port + 1))) (seen c.args.depot.now) (seen c.open_out.new.self) l) (sym c.add_slot.ensures)
    (output_more c.args.sides.now c.loop-port.port lt (seen c.args.depot.now) (seen c.loop-port.depot) (seen c.open_out.new.self) c.loop-port.outs.items c.loop-port.invariant
    c.in-Ok.slot c.requires.different (out_as c.output_at.ensures c.in-Ok.ensures.opens))

pub returns-in-Err : goal.returns-in-Err
returns-in-Err g c =
    let seen = g.D.Depot.seen in
    let lt : c.loop-port.port < side_count c.args.sides.now = omega (arith, c.loop-port-test.true, c.side_count-port-end.ensures.value) in
    record {
      opens = output_failed c.args.sides.now c.loop-port.port lt (seen c.args.depot.now) (seen c.loop-port.depot) (seen c.open_out.new.self) c.loop-port.outs.items c.loop-port.invariant
          c.in-Err.failed (out_as c.output_at.ensures c.in-Err.ensures.opens);
    }
