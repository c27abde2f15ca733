use Rattle.std.proofs.Common.{◌+◌, ◌<◌, ◌∷◌, ◌≡◌, [], ◌++◌, ℕ, sym, subst, arith}
use Rattle.fabric_tool.specs.Command.{live_of, live_count}
use Rattle.fabric_tool.specs.Opening.{RecordedOpened}
use Rattle.fab_replay.proofs.ResultLemmas.{err_is, not_ok}
use Rattle.fabric_tool.proofs.PortLoops.{out_as}
use Rattle.fabric_tool.proofs.LiveWordLemmas.{PortsOpened, live_journal, live_no_journal, came_failed, sent_failed, both_opened, live_opened}
use Rattle.fabric_tool.proofs.live.open_recorded.Goals as goal

pub returns-in_err-journal : goal.returns-in_err-journal
returns-in_err-journal g c =
    let seen = g.D.Depot.seen in
    let a = seen c.args.depot.now in
    let d = seen c.open_out.new.self in
    record {
      opens = subst (RecordedOpened (live_of c.args.words.now) a d) (err_is c.from_residual.result _ c.from_residual.ensures.1)
          (live_no_journal c.args.words.now a d c.in_err-journal.field-0.0 (out_as c.word_at.ensures c.in_err-journal.ensures.opens));
      width = not_ok c.from_residual.result _ _ c.from_residual.ensures.1;
    }

pub loop-port-init : goal.loop-port-init
loop-port-init g c =
    let seen = g.D.Depot.seen in
    subst (λ l. PortsOpened c.args.words.now 0 (seen c.args.depot.now) (seen c.open_out.new.self) c.in_ok-journal.journal l c.new-outs.result.items) (sym c.new-ins.ensures)
    (subst (λ l. PortsOpened c.args.words.now 0 (seen c.args.depot.now) (seen c.open_out.new.self) c.in_ok-journal.journal [] l) (sym c.new-outs.ensures)
    (live_journal c.args.words.now (seen c.args.depot.now) (seen c.open_out.new.self) c.in_ok-journal.journal (out_as c.word_at.ensures c.in_ok-journal.ensures.opens)))

pub returns-in_err-came : goal.returns-in_err-came
returns-in_err-came g c =
    let seen = g.D.Depot.seen in
    let a = seen c.args.depot.now in
    let d = seen c.open_out-in-loop-port.new.self in
    let lt : c.loop-port.port < live_count c.args.words.now = let t = c.loop-port-test.true in let v = c.live_count-port-end.ensures.value in omega arith in
    record {
      opens = subst (RecordedOpened (live_of c.args.words.now) a d) (err_is c.from_residual-in_err-came.result _ c.from_residual-in_err-came.ensures.1)
          (came_failed c.args.words.now c.requires.live c.loop-port.port lt a (seen c.loop-port.depot) c.in_ok-journal.journal c.loop-port.ins.items c.loop-port.outs.items c.loop-port.invariant
          d c.in_err-came.field-0.0 (out_as c.came_at.ensures c.in_err-came.ensures.opens));
      width = not_ok c.from_residual-in_err-came.result _ _ c.from_residual-in_err-came.ensures.1;
    }

pub returns-in_err-sent : goal.returns-in_err-sent
returns-in_err-sent g c =
    let seen = g.D.Depot.seen in
    let a = seen c.args.depot.now in
    let d = seen c.open_out-in-loop-port-2.new.self in
    let lt : c.loop-port.port < live_count c.args.words.now = let t = c.loop-port-test.true in let v = c.live_count-port-end.ensures.value in omega arith in
    record {
      opens = subst (RecordedOpened (live_of c.args.words.now) a d) (err_is c.from_residual-in_err-sent.result _ c.from_residual-in_err-sent.ensures.1)
          (sent_failed c.args.words.now c.requires.live c.loop-port.port lt a (seen c.loop-port.depot) c.in_ok-journal.journal c.loop-port.ins.items c.loop-port.outs.items c.loop-port.invariant
          (seen c.open_out-in-loop-port.new.self) c.in_ok-came.came (out_as c.came_at.ensures c.in_ok-came.ensures.opens)
          d c.in_err-sent.field-0.0 (out_as c.sent_at.ensures c.in_err-sent.ensures.opens));
      width = not_ok c.from_residual-in_err-sent.result _ _ c.from_residual-in_err-sent.ensures.1;
    }

pub loop-port-preserved : goal.loop-port-preserved
loop-port-preserved g c =
    let seen = g.D.Depot.seen in
    let lt : c.loop-port.port < live_count c.args.words.now = let t = c.loop-port-test.true in let v = c.live_count-port-end.ensures.value in omega arith in
    let both = both_opened c.args.words.now c.requires.live c.loop-port.port lt (seen c.args.depot.now) (seen c.loop-port.depot) c.in_ok-journal.journal c.loop-port.ins.items c.loop-port.outs.items c.loop-port.invariant
    (seen c.open_out-in-loop-port.new.self) c.in_ok-came.came (out_as c.came_at.ensures c.in_ok-came.ensures.opens)
    (seen c.open_out-in-loop-port-2.new.self) c.in_ok-sent.sent (out_as c.sent_at.ensures c.in_ok-sent.ensures.opens) in
    let p = c.loop-port.port + 1 in
    subst (λ l. PortsOpened c.args.words.now p (seen c.args.depot.now) (seen c.open_out-in-loop-port-2.new.self) c.in_ok-journal.journal l c.add_slot-in-loop-port.new.slots.items) (sym c.add_slot.ensures)
    (subst (λ l. PortsOpened c.args.words.now p (seen c.args.depot.now) (seen c.open_out-in-loop-port-2.new.self) c.in_ok-journal.journal (c.loop-port.ins.items ++ c.in_ok-came.came ∷ []) l) (sym c.add_slot-in-loop-port.ensures) both)

-- those of all ports were opened
pub returns : goal.returns
returns g c =
    let seen = g.D.Depot.seen in
    let all : c.loop-port.port ≡ live_count c.args.words.now =
    let end = c.loop-port-test.false in
    let within = c.loop-port.auto.port-end in
    let value = c.live_count-port-end.ensures.value in
    omega arith in
    let h = subst (λ (p : ℕ). PortsOpened c.args.words.now p (seen c.args.depot.now) (seen c.loop-port.depot) c.in_ok-journal.journal c.loop-port.ins.items c.loop-port.outs.items) all c.loop-port.invariant in
    let width = live_opened c.args.words.now (seen c.args.depot.now) (seen c.loop-port.depot) c.in_ok-journal.journal c.loop-port.ins.items c.loop-port.outs.items h in
    record { opens = record { opens = h.opened.opens; slots = h.opened.are; cause = tt; counts = h.opened.counts }; width = width }
