use Rattle.std.proofs.Common.{◌<◌, arith, length}
use Rattle.std.proofs.lemmas.Option.{slice_get-get_or}
use Rattle.fab_replay.proofs.EachLemmas.{finish_more, finish_differs, finish_failed, finish_all_of}
use Rattle.fab_replay.proofs.all_outputs.finish_each.Goals as goal

pub returns-in-Ok-Some : goal.returns-in-Ok-Some
returns-in-Ok-Some g c =
    let seen = g.D.Depot.seen in
    let within : c.loop-port.port < length c.args.all.now = let t = c.loop-port-test.true in let n = c.requires.count in omega arith in
    record {
      finishes = finish_differs c.args.slots.now c.loop-port.port (seen c.args.depot.now) (seen c.loop-port.depot) (seen c.finish.new.depot) c.args.all.now c.requires.inputs c.requires.count c.loop-port-test.true c.loop-port.invariant _
          (slice_get-get_or c.args.all.now c.loop-port.port _ within) c.at.result c.in-Ok-Some.at c.in-Ok-Some.field-0 c.at.ensures c.in-Ok-Some.field-0-is c.in-Ok-Some.ensures.finishes;
    }

pub returns-in-Err : goal.returns-in-Err
returns-in-Err g c =
    let seen = g.D.Depot.seen in
    let within : c.loop-port.port < length c.args.all.now = let t = c.loop-port-test.true in let n = c.requires.count in omega arith in
    record {
      finishes = finish_failed c.args.slots.now c.loop-port.port (seen c.args.depot.now) (seen c.loop-port.depot) (seen c.finish.new.depot) c.args.all.now c.requires.inputs c.requires.count c.loop-port-test.true c.loop-port.invariant _
          (slice_get-get_or c.args.all.now c.loop-port.port _ within) c.in-Err.failed c.in-Err.ensures.finishes;
    }

pub loop-port-preserved : goal.loop-port-preserved
loop-port-preserved g c =
    let seen = g.D.Depot.seen in
    let within : c.loop-port.port < length c.args.all.now = let t = c.loop-port-test.true in let n = c.requires.count in omega arith in
    finish_more c.args.slots.now c.loop-port.port (seen c.args.depot.now) (seen c.loop-port.depot) (seen c.finish.new.depot) c.args.all.now c.requires.inputs c.requires.count c.loop-port-test.true c.loop-port.invariant _
    (slice_get-get_or c.args.all.now c.loop-port.port _ within) c.in-Ok-None.field-0 c.in-Ok-None.field-0-is c.in-Ok-None.ensures.finishes

pub returns : goal.returns
returns g c =
    let seen = g.D.Depot.seen in
    record { finishes = finish_all_of c.args.slots.now c.loop-port.port (seen c.args.depot.now) (seen c.loop-port.depot) c.args.all.now c.requires.count c.loop-port-test.false c.loop-port.invariant }
