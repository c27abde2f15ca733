use Rattle.std.proofs.Common.{sym, arith}
use Rattle.window_records.proofs.PortsLemmas.{round_none, round_all, turn_of, turn_open, turn_ready, turn_taken, turn_failed, taken_as}
use Rattle.window_records.proofs.ports.take_windows.Goals as goal

pub loop-port-init : goal.loop-port-init
loop-port-init g c = round_none c.args.config.now c.args.window (g.D.Depot.seen c.args.depot.now) c.args.ins.now c.args.shelves.now c.args.budget.now c.requires.ready

pub returns : goal.returns
returns g c =
    let seen = g.D.Depot.seen in
    record { takes = round_all c.args.config.now c.args.window c.loop-port.port (seen c.args.depot.now) (seen c.loop-port.depot) c.args.ins.now c.loop-port.ins c.args.shelves.now c.loop-port.shelves c.args.budget.now c.loop-port.budget (let t = c.loop-port-test.false in let a = c.loop-port.auto.ins in omega arith) (sym c.requires.count) c.loop-port.invariant }

pub take_window-requires-clause-input : goal.take_window-requires-clause-input
take_window-requires-clause-input g c =
    turn_open (turn_of c.requires.inputs c.requires.count c.loop-port-test.true c.loop-port.invariant c.index-ins-port.result c.index-shelves-port.result)

pub take_window-requires-clause-ready : goal.take_window-requires-clause-ready
take_window-requires-clause-ready g c =
    turn_ready (turn_of c.requires.inputs c.requires.count c.loop-port-test.true c.loop-port.invariant c.index-ins-port.result c.index-shelves-port.result)

pub returns-in-Err : goal.returns-in-Err
returns-in-Err g c =
    let turn = turn_of c.requires.inputs c.requires.count c.loop-port-test.true c.loop-port.invariant c.index-ins-port.result c.index-shelves-port.result in
    record { takes = turn_failed turn _ c.take_window.new.input c.take_window.new.shelf _ c.in-Err.ensures.slot c.in-Err.fault (taken_as (sym c.at.ensures) c.in-Err.ensures.takes) }

pub loop-port-preserved : goal.loop-port-preserved
loop-port-preserved g c =
    let turn = turn_of c.requires.inputs c.requires.count c.loop-port-test.true c.loop-port.invariant c.index-ins-port.result c.index-shelves-port.result in
    turn_taken turn _ c.take_window.new.input c.take_window.new.shelf _ c.in-Ok.ensures.slot (taken_as (sym c.at.ensures) c.in-Ok.ensures.takes)
