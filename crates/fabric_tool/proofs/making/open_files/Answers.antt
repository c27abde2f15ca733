use Rattle.std.proofs.Common.{◌+◌, sym, subst, arith}
use Rattle.fab_replay.proofs.ResultLemmas.{err_is}
use Rattle.fabric_tool.specs.Command.{files_of}
use Rattle.fabric_tool.specs.Opening.{FilesOpened}
use Rattle.fabric_tool.proofs.MakeLemmas.{file_names, file_more, file_failed, files_count, files_opened}
use Rattle.run_files.proofs.OpenLemmas.{OpenedSoFar, opened_none}
use Rattle.fabric_tool.proofs.PortLoops.{out_as}
use Rattle.fabric_tool.proofs.making.open_files.Goals as goal

pub loop-place-init : goal.loop-place-init
loop-place-init g c =
    let a = g.D.Depot.seen c.args.depot.now in
    subst (λ l. OpenedSoFar (file_names c.args.words.now 0) a a l) (sym c.new-slots.ensures) (opened_none a)

pub add_slot-requires : goal.add_slot-requires
add_slot-requires g c =
    let seen = g.D.Depot.seen in
    let count = files_count c.args.words.now c.loop-place.place (seen c.args.depot.now) (seen c.loop-place.depot) c.loop-place.slots.items c.loop-place.invariant in
    let t = c.loop-place-test.true in
    omega arith

pub loop-place-preserved : goal.loop-place-preserved
loop-place-preserved g c =
    let seen = g.D.Depot.seen in
    subst (λ l. OpenedSoFar (file_names c.args.words.now (c.loop-place.place + 1)) (seen c.args.depot.now) (seen c.open_out.new.self) l) (sym c.add_slot.ensures)
    (file_more c.args.words.now c.requires.make c.loop-place.place c.loop-place-test.true (seen c.args.depot.now) (seen c.loop-place.depot) (seen c.open_out.new.self) c.loop-place.slots.items c.loop-place.invariant
    c.in_ok-slot.slot (out_as c.file_at.ensures c.in_ok-slot.ensures.opens))

pub returns-in_err-slot : goal.returns-in_err-slot
returns-in_err-slot g c =
    let seen = g.D.Depot.seen in
    let a = seen c.args.depot.now in
    let d = seen c.open_out.new.self in
    record {
      opens = subst (FilesOpened (files_of c.args.words.now) a d) (err_is c.from_residual.result _ c.from_residual.ensures.1)
          (file_failed c.args.words.now c.requires.make c.loop-place.place c.loop-place-test.true a (seen c.loop-place.depot) d c.loop-place.slots.items c.loop-place.invariant
          c.in_err-slot.field-0.0 (out_as c.file_at.ensures c.in_err-slot.ensures.opens));
    }

pub returns : goal.returns
returns g c =
    let seen = g.D.Depot.seen in
    record { opens = files_opened c.args.words.now c.loop-place.place (seen c.args.depot.now) (seen c.loop-place.depot) (record { slots = c.loop-place.slots }) c.loop-place-test.false c.loop-place.auto.place-end c.loop-place.invariant }
