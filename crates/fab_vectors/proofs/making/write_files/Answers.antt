use Rattle.fab_vectors.proofs.MakingLemmas.{made_none, made_more, made_failed, made_all, output_on}
use Rattle.fab_vectors.proofs.making.write_files.Goals as goal

pub loop-place-init : goal.loop-place-init
loop-place-init g c = made_none c.args.number c.args.slots.now (g.D.Depot.seen c.args.depot.now)

pub write_file-requires-clause-output : goal.write_file-requires-clause-output
write_file-requires-clause-output g c =
    let seen = g.D.Depot.seen in
    output_on c.args.number c.args.slots.now c.loop-place.place c.loop-place.total (seen c.args.depot.now) (seen c.loop-place.depot) (seen c.loop-place.depot) c.requires.files c.loop-place-test.true c.loop-place.invariant

pub loop-place-preserved : goal.loop-place-preserved
loop-place-preserved g c =
    let seen = g.D.Depot.seen in
    made_more c.args.number c.args.slots.now c.loop-place.place c.loop-place.total (seen c.args.depot.now) (seen c.loop-place.depot) (seen c.write_file.new.depot) c.requires.files c.loop-place-test.true c.loop-place.invariant
    c.in-Ok.frames c.in-Ok.ensures.count c.in-Ok.ensures.adds

pub returns-in-Err : goal.returns-in-Err
returns-in-Err g c =
    let seen = g.D.Depot.seen in
    record {
      makes = made_failed c.args.number c.args.slots.now c.loop-place.place c.loop-place.total (seen c.args.depot.now) (seen c.loop-place.depot) (seen c.write_file.new.depot) c.requires.files c.loop-place-test.true c.loop-place.invariant
          c.in-Err.fault c.in-Err.ensures.adds;
    }

pub returns : goal.returns
returns g c =
    let seen = g.D.Depot.seen in
    record {
      makes = made_all c.args.number c.args.slots.now c.loop-place.place c.loop-place.total (seen c.args.depot.now) (seen c.loop-place.depot) c.requires.files c.loop-place-test.false c.loop-place.auto.place-end c.loop-place.invariant;
    }
