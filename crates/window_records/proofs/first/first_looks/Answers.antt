use Rattle.std.proofs.Common.{sym, arith}
use Rattle.window_records.proofs.FirstLemmas.{any, seeing_as, seeing_none, looks_all, look_turn, look_open, look_fresh, look_lost, look_failed, looked_on, once_as}
use Rattle.window_records.proofs.first.first_looks.Goals as goal

pub loop-port-init : goal.loop-port-init
loop-port-init g c = λ s. seeing_as (sym c.new-shelves.ensures.items) (seeing_none s (g.D.Depot.seen c.args.depot.now) c.args.ins.now c.args.budget.now)

pub look-requires-clause-input : goal.look-requires-clause-input
look-requires-clause-input g c =
    look_open (look_turn c.looks_go_on.ensures.found c.looks_go_on.ensures.end c.requires.inputs c.requires.fresh c.loop-port-test.true (c.loop-port.invariant any) c.index-ins-port.result)

pub look-requires-clause-fresh : goal.look-requires-clause-fresh
look-requires-clause-fresh g c =
    look_fresh (look_turn c.looks_go_on.ensures.found c.looks_go_on.ensures.end c.requires.inputs c.requires.fresh c.loop-port-test.true (c.loop-port.invariant any) c.index-ins-port.result)

pub returns-in-Err-push : goal.returns-in-Err-push
returns-in-Err-push g c = record {
  looks = λ s.
      let turn = look_turn c.looks_go_on.ensures.found c.looks_go_on.ensures.end c.requires.inputs c.requires.fresh c.loop-port-test.true (c.loop-port.invariant s) c.index-ins-port.result in
      look_lost turn _ c.look.new.input _ c.in-Ok.ensures.slot c.in-Ok.shelf (once_as c.at.ensures (c.in-Ok.ensures.looks s));
}

pub returns-in-Err : goal.returns-in-Err
returns-in-Err g c = record {
  looks = λ s.
      let turn = look_turn c.looks_go_on.ensures.found c.looks_go_on.ensures.end c.requires.inputs c.requires.fresh c.loop-port-test.true (c.loop-port.invariant s) c.index-ins-port.result in
      look_failed turn _ c.look.new.input _ c.in-Err.ensures.slot c.in-Err.fault (once_as c.at.ensures (c.in-Err.ensures.looks s));
}

pub loop-port-preserved : goal.loop-port-preserved
loop-port-preserved g c = λ s.
    let turn = look_turn c.looks_go_on.ensures.found c.looks_go_on.ensures.end c.requires.inputs c.requires.fresh c.loop-port-test.true (c.loop-port.invariant s) c.index-ins-port.result in
    seeing_as (sym c.in-Ok-push.ensures.items) (looked_on turn _ c.look.new.input _ c.in-Ok.ensures.slot c.in-Ok.shelf (once_as c.at.ensures (c.in-Ok.ensures.looks s)))

pub returns : goal.returns
returns g c =
    let seen = g.D.Depot.seen in
    record { looks = λ s. looks_all s c.loop-port.port (seen c.args.depot.now) (seen c.loop-port.depot) c.args.ins.now c.loop-port.ins c.loop-port.shelves c.args.budget.now c.loop-port.budget (let t = c.loop-port-test.false in let a = c.loop-port.auto.ins in let b = c.loop-port.auto.port-end in omega arith) (c.loop-port.invariant s) }
