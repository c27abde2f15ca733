use Rattle.std.proofs.Common.{◌+◌, ◌<◌, List, sym, subst, arith}
use Rattle.window_records.specs.declared.shelf.Input.{Input}
use Rattle.fab_replay.proofs.ResultLemmas.{err_is}
use Rattle.fabric_tool.specs.Command.{count_of, ins_of}
use Rattle.fabric_tool.specs.Reading.{HeadsRead}
use Rattle.fabric_tool.proofs.HeadLemmas.{HeadsSoFar}
use Rattle.fabric_tool.proofs.PortLoops.{input_names, head_as, head_more, head_ended, head_no_room}
use Rattle.fabric_tool.proofs.heads.heads_of.Goals as goal

pub returns-in_err-input : goal.returns-in_err-input
returns-in_err-input g c =
    let seen = g.D.Depot.seen in
    let a = seen c.args.depot.now in
    let d = seen c.head_of.new.depot in
    let lt : c.loop-port.port < count_of c.args.width c.args.words.now = let t = c.loop-port-test.true in let v = c.count_of-port-end.ensures.value in omega arith in
    record {
      reads = subst (HeadsRead (ins_of c.args.width c.args.words.now) a d c.args.budget.now c.head_of.new.budget) (err_is c.from_residual.result _ c.from_residual.ensures.1)
          (head_ended c.args.width c.args.words.now c.requires.ports c.loop-port.port lt a (seen c.loop-port.depot) d c.loop-port.ins.items c.args.budget.now c.loop-port.budget c.head_of.new.budget
          c.loop-port.invariant c.in_err-input.field-0.0 (head_as c.at.ensures c.input_of-name.ensures c.in_err-input.ensures.reads));
    }

pub returns-in-Err : goal.returns-in-Err
returns-in-Err g c =
    let seen = g.D.Depot.seen in
    let lt : c.loop-port.port < count_of c.args.width c.args.words.now = let t = c.loop-port-test.true in let v = c.count_of-port-end.ensures.value in omega arith in
    record {
      reads = head_no_room c.args.width c.args.words.now c.requires.ports c.loop-port.port lt (seen c.args.depot.now) (seen c.loop-port.depot) (seen c.head_of.new.depot) c.loop-port.ins.items c.args.budget.now c.loop-port.budget c.head_of.new.budget
          c.loop-port.invariant c.in_ok-input.input (head_as c.at.ensures c.input_of-name.ensures c.in_ok-input.ensures.reads);
    }

pub loop-port-preserved : goal.loop-port-preserved
loop-port-preserved g c =
    let seen = g.D.Depot.seen in
    let lt : c.loop-port.port < count_of c.args.width c.args.words.now = let t = c.loop-port-test.true in let v = c.count_of-port-end.ensures.value in omega arith in
    subst (λ l. HeadsSoFar (input_names c.args.width c.args.words.now (c.loop-port.port + 1)) (seen c.args.depot.now) (seen c.head_of.new.depot) l c.args.budget.now c.head_of.new.budget) (sym {A = List Input} c.in-Ok.ensures.items)
    (head_more c.args.width c.args.words.now c.requires.ports c.loop-port.port lt (seen c.args.depot.now) (seen c.loop-port.depot) (seen c.head_of.new.depot) c.loop-port.ins.items c.args.budget.now c.loop-port.budget c.head_of.new.budget
    c.loop-port.invariant c.in_ok-input.input (head_as c.at.ensures c.input_of-name.ensures c.in_ok-input.ensures.reads))
