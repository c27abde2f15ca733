use Rattle.std.proofs.Common.{◌∙◌, arith, subst, Ok, Err}
use Rattle.fab_base.specs.Seen.{PutsAll}
use Rattle.fab_base.specs.Slots.{slot_at}
use Rattle.run_files.specs.Pages.{items_in}
use Rattle.run_files.proofs.OutputLemmas.{put_more, put_failed, put_all_of, output_on}
use Rattle.run_files.proofs.PageLemmas.{piece-item}
use Rattle.run_files.proofs.outputs.put_each.Goals as goal

pub returns-in-Err : goal.returns-in-Err
returns-in-Err g c =
    let seen = g.D.Depot.seen in
    let lt = c.loop-port-test.true in
    let count = c.requires.count in
    let piece = c.deref.ensures.value ∙ piece-item c.args.pieces.now c.loop-port.port c.index-pieces-port.result (omega arith) c.index-pieces-port.is in
    record {
      puts = put_failed c.args.slots.now (items_in c.args.pieces.now) c.loop-port.port (seen c.args.depot.now) (seen c.loop-port.depot) (seen c.put_all.new.depot) c.requires.outputs lt c.loop-port.invariant c.in-Err.failed
          (subst (λ l. PutsAll (slot_at c.args.slots.now c.loop-port.port) l (seen c.loop-port.depot) (seen c.put_all.new.depot) (Err c.in-Err.failed)) piece c.in-Err.ensures.puts);
    }

pub put_all-requires : goal.put_all-requires
put_all-requires g c =
    let seen = g.D.Depot.seen in
    output_on c.args.slots.now (items_in c.args.pieces.now) c.loop-port.port (seen c.args.depot.now) (seen c.loop-port.depot) (seen c.loop-port.depot) c.requires.outputs c.loop-port-test.true c.loop-port.invariant

pub loop-port-preserved : goal.loop-port-preserved
loop-port-preserved g c =
    let seen = g.D.Depot.seen in
    let lt = c.loop-port-test.true in
    let count = c.requires.count in
    let piece = c.deref.ensures.value ∙ piece-item c.args.pieces.now c.loop-port.port c.index-pieces-port.result (omega arith) c.index-pieces-port.is in
    put_more c.args.slots.now (items_in c.args.pieces.now) c.loop-port.port (seen c.args.depot.now) (seen c.loop-port.depot) (seen c.put_all.new.depot) c.requires.outputs lt c.loop-port.invariant
    (subst (λ l. PutsAll (slot_at c.args.slots.now c.loop-port.port) l (seen c.loop-port.depot) (seen c.put_all.new.depot) (Ok tt)) piece c.in-Ok.ensures.puts)

pub returns : goal.returns
returns g c =
    let seen = g.D.Depot.seen in
    record { puts = put_all_of c.args.slots.now (items_in c.args.pieces.now) c.loop-port.port (seen c.args.depot.now) (seen c.loop-port.depot) c.loop-port-test.false c.loop-port.invariant }
