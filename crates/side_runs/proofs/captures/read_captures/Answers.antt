use Rattle.std.proofs.Common.{◌≡◌, ◌+◌, ◌<◌, ℕ, List, [], Ok, refl, sym, subst, arith}
use Rattle.std.specs.Prelude.{map}
use Rattle.pcap_file.specs.declared.Record.{Record}
use Rattle.fab_base.specs.Counting.{counting}
use Rattle.side_runs.specs.Opening.{ReadsInputs}
use Rattle.side_runs.specs.Sides.{side_count, input_at}
use Rattle.side_runs.proofs.InputLemmas.{InputsSoFar, inputs_none, inputs_all}
use Rattle.side_runs.proofs.PortLoops.{read_as, input_more, input_failed, input_no_room}
use Rattle.side_runs.proofs.captures.read_captures.Goals as goal

pub loop-port-init : goal.loop-port-init
loop-port-init g c =
    let a = g.D.Depot.seen c.args.depot.now in
    subst (λ l. InputsSoFar [] a a l c.args.budget.now c.args.budget.now) (sym c.new-ins.ensures.items) (inputs_none a c.args.budget.now)

pub returns-in-Err : goal.returns-in-Err
returns-in-Err g c =
    let seen = g.D.Depot.seen in
    let lt : c.loop-port.port < side_count c.args.sides.now = omega (arith, c.loop-port-test.true, c.side_count-port-end.ensures.value) in
    record {
      reads = input_failed c.args.sides.now c.loop-port.port lt (seen c.args.depot.now) (seen c.loop-port.depot) (seen c.read_input.new.depot) c.loop-port.ins.items c.args.budget.now c.loop-port.budget c.read_input.new.budget c.loop-port.invariant
          c.in-Err.fault (read_as c.at.ensures c.input_at-name.ensures c.in-Err.ensures.reads);
    }

pub returns-in-Err-push : goal.returns-in-Err-push
returns-in-Err-push g c =
    let seen = g.D.Depot.seen in
    let lt : c.loop-port.port < side_count c.args.sides.now = omega (arith, c.loop-port-test.true, c.side_count-port-end.ensures.value) in
    record {
      reads = input_no_room c.args.sides.now c.loop-port.port lt (seen c.args.depot.now) (seen c.loop-port.depot) (seen c.read_input.new.depot) c.loop-port.ins.items c.args.budget.now c.loop-port.budget c.read_input.new.budget c.loop-port.invariant
          c.in-Ok.records (read_as c.at.ensures c.input_at-name.ensures c.in-Ok.ensures.reads);
    }

pub loop-port-preserved : goal.loop-port-preserved
loop-port-preserved g c =
    let seen = g.D.Depot.seen in
    let lt : c.loop-port.port < side_count c.args.sides.now = omega (arith, c.loop-port-test.true, c.side_count-port-end.ensures.value) in
    subst (λ l. InputsSoFar (map (input_at c.args.sides.now) (counting 0 (c.loop-port.port + 1))) (seen c.args.depot.now) (seen c.read_input.new.depot) l c.args.budget.now c.read_input.new.budget) (sym {A = List (List Record)} c.in-Ok-push.ensures.items)
    (input_more c.args.sides.now c.loop-port.port lt (seen c.args.depot.now) (seen c.loop-port.depot) (seen c.read_input.new.depot) c.loop-port.ins.items c.args.budget.now c.loop-port.budget c.read_input.new.budget c.loop-port.invariant
    c.in-Ok.records (read_as c.at.ensures c.input_at-name.ensures c.in-Ok.ensures.reads))

pub returns : goal.returns
returns g c =
    let seen = g.D.Depot.seen in
    let all : c.loop-port.port ≡ side_count c.args.sides.now = omega (arith, c.loop-port-test.false, c.loop-port.auto.port-end, c.side_count-port-end.ensures.value) in
    record {
      reads = subst (λ (n : ℕ). ReadsInputs (map (input_at c.args.sides.now) (counting 0 n)) (seen c.args.depot.now) (seen c.loop-port.depot) c.args.budget.now (Ok c.loop-port.ins)) all
          (inputs_all (map (input_at c.args.sides.now) (counting 0 c.loop-port.port)) (seen c.args.depot.now) (seen c.loop-port.depot) c.loop-port.ins.items c.args.budget.now c.loop-port.budget c.loop-port.invariant c.loop-port.ins refl);
    }
