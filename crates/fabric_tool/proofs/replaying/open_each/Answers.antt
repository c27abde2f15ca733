use Rattle.std.proofs.Common.{◌+◌, ◌<◌, sym, subst, arith}
use Rattle.fabric_tool.specs.Command.{port_count}
use Rattle.fabric_tool.proofs.JournalLemmas.{ReadSoFar, out_names, read_none, out_more, out_failed, outs_so_far, outs_handed, outs_read, in_as}
use Rattle.fabric_tool.proofs.replaying.open_each.Goals as goal

pub loop-port-init : goal.loop-port-init
loop-port-init g c =
    let a = g.D.Depot.seen c.args.depot.now in
    subst (λ l. ReadSoFar (out_names c.args.words.now 0) a a l) (sym c.new-outs.ensures) (read_none a)

pub add_slot-requires : goal.add_slot-requires
add_slot-requires g c =
    let seen = g.D.Depot.seen in
    let count = outs_so_far c.args.words.now c.loop-port.port (seen c.args.depot.now) (seen c.loop-port.depot) c.loop-port.outs.items c.loop-port.invariant in
    let t = c.loop-port-test.true in
    let few = c.port_count-port-end.ensures.range.1 in
    omega arith

pub loop-port-preserved : goal.loop-port-preserved
loop-port-preserved g c =
    let seen = g.D.Depot.seen in
    let lt : c.loop-port.port < port_count c.args.words.now = let t = c.loop-port-test.true in let v = c.port_count-port-end.ensures.value in omega arith in
    subst (λ l. ReadSoFar (out_names c.args.words.now (c.loop-port.port + 1)) (seen c.args.depot.now) (seen c.open_in.new.self) l) (sym c.add_slot.ensures)
    (out_more c.args.words.now c.requires.pairs c.loop-port.port lt (seen c.args.depot.now) (seen c.loop-port.depot) (seen c.open_in.new.self) c.loop-port.outs.items c.loop-port.invariant
    c.in_ok-slot.slot (in_as c.output_at.ensures c.in_ok-slot.ensures.opens))

pub returns-in_err-slot : goal.returns-in_err-slot
returns-in_err-slot g c =
    let seen = g.D.Depot.seen in
    let a = seen c.args.depot.now in
    let d = seen c.open_in.new.self in
    let lt : c.loop-port.port < port_count c.args.words.now = let t = c.loop-port-test.true in let v = c.port_count-port-end.ensures.value in omega arith in
    record {
      reads = outs_handed c.from_residual.result (λ o. o.items) _ c.from_residual.ensures.1
          (out_failed c.args.words.now c.requires.pairs c.loop-port.port lt a (seen c.loop-port.depot) d c.loop-port.outs.items c.loop-port.invariant
          (λ o. o.items) c.in_err-slot.field-0.0 (in_as c.output_at.ensures c.in_err-slot.ensures.opens));
    }

pub returns : goal.returns
returns g c =
    let seen = g.D.Depot.seen in
    record {
      reads = outs_read c.args.words.now c.loop-port.port (seen c.args.depot.now) (seen c.loop-port.depot) (λ o. o.items) c.loop-port.outs
          (let t = c.loop-port-test.false in let e = c.loop-port.auto.port-end in let v = c.port_count-port-end.ensures.value in omega arith) c.loop-port.invariant;
    }
