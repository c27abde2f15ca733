use Rattle.std.proofs.Common.{◌+◌, ◌<◌, ◌∷◌, ◌≡◌, sym, subst, arith}
use Rattle.fabric_tool.specs.Command.{run_of, port_count}
use Rattle.fabric_tool.specs.Opening.{OutputsOpened}
use Rattle.fab_replay.proofs.ResultLemmas.{err_is}
use Rattle.run_files.proofs.OpenLemmas.{OpenedSoFar}
use Rattle.fabric_tool.proofs.PortLoops.{output_names, out_as, journal_opened, journal_failed, output_more, output_failed, opened_count}
use Rattle.fabric_tool.proofs.outputs.open_outputs.Goals as goal

pub returns-in_err-journal : goal.returns-in_err-journal
returns-in_err-journal g c =
    let seen = g.D.Depot.seen in
    let a = seen c.args.depot.now in
    let d = seen c.open_out.new.self in
    record {
      opens = subst (OutputsOpened (run_of c.args.words.now) a d) (err_is c.from_residual.result _ c.from_residual.ensures.1)
          (journal_failed c.args.words.now a d c.in_err-journal.field-0.0 (out_as c.word_at.ensures c.in_err-journal.ensures.opens));
    }

pub loop-port-init : goal.loop-port-init
loop-port-init g c =
    let seen = g.D.Depot.seen in
    subst (λ l. OpenedSoFar (output_names c.args.words.now 0) (seen c.args.depot.now) (seen c.open_out.new.self) (c.in_ok-journal.journal ∷ l)) (sym c.new-outs.ensures)
    (journal_opened c.args.words.now (seen c.args.depot.now) (seen c.open_out.new.self) c.in_ok-journal.journal (out_as c.word_at.ensures c.in_ok-journal.ensures.opens))

pub add_slot-requires : goal.add_slot-requires
add_slot-requires g c =
    let seen = g.D.Depot.seen in
    let count = opened_count c.args.words.now c.loop-port.port (seen c.args.depot.now) (seen c.loop-port.depot) c.in_ok-journal.journal c.loop-port.outs.items c.loop-port.invariant in
    let t = c.loop-port-test.true in
    let few = c.port_count-port-end.ensures.range.1 in
    omega arith

pub loop-port-preserved : goal.loop-port-preserved
loop-port-preserved g c =
    let seen = g.D.Depot.seen in
    let lt : c.loop-port.port < port_count c.args.words.now = let t = c.loop-port-test.true in let v = c.port_count-port-end.ensures.value in omega arith in
    subst (λ l. OpenedSoFar (output_names c.args.words.now (c.loop-port.port + 1)) (seen c.args.depot.now) (seen c.open_out-in-loop-port.new.self) (c.in_ok-journal.journal ∷ l)) (sym c.add_slot.ensures)
    (output_more c.args.words.now c.requires.run c.loop-port.port lt (seen c.args.depot.now) (seen c.loop-port.depot) (seen c.open_out-in-loop-port.new.self) (c.in_ok-journal.journal ∷ c.loop-port.outs.items) c.loop-port.invariant
    c.in_ok-slot.slot (out_as c.output_at.ensures c.in_ok-slot.ensures.opens))

pub returns-in_err-slot : goal.returns-in_err-slot
returns-in_err-slot g c =
    let seen = g.D.Depot.seen in
    let a = seen c.args.depot.now in
    let d = seen c.open_out-in-loop-port.new.self in
    let lt : c.loop-port.port < port_count c.args.words.now = let t = c.loop-port-test.true in let v = c.port_count-port-end.ensures.value in omega arith in
    record {
      opens = subst (OutputsOpened (run_of c.args.words.now) a d) (err_is c.from_residual-in_err-slot.result _ c.from_residual-in_err-slot.ensures.1)
          (output_failed c.args.words.now c.requires.run c.loop-port.port lt a (seen c.loop-port.depot) d (c.in_ok-journal.journal ∷ c.loop-port.outs.items) c.loop-port.invariant
          c.in_err-slot.field-0.0 (out_as c.output_at.ensures c.in_err-slot.ensures.opens));
    }

-- those of all ports were opened
pub returns : goal.returns
returns g c =
    let seen = g.D.Depot.seen in
    let all : c.loop-port.port ≡ port_count c.args.words.now =
    let end = c.loop-port-test.false in
    let within = c.loop-port.auto.port-end in
    let value = c.port_count-port-end.ensures.value in
    omega arith in
    let so = subst (λ p. OpenedSoFar (output_names c.args.words.now p) (seen c.args.depot.now) (seen c.loop-port.depot) (c.in_ok-journal.journal ∷ c.loop-port.outs.items)) all c.loop-port.invariant in
    record { opens = record { opens = so.opens; slots = so.are; cause = tt; counts = so.counts } }
