use Rattle.std.proofs.Common.{◌∙◌}
use Rattle.fab_turn.proofs.Turning.{may_look, has_ticket, in_slot, turn_pass, turn_history, turn_seen, turn_own, turn_grown}
use Rattle.fab_turn.proofs.board.TurnLock.turn_by_ticket.Goals as goal

pub look-requires : goal.look-requires
look-requires g c = let i = c.loop.invariant in may_look c.args.self.now c.args.pass.now c.loop.pass i.0 c.requires.0 c.requires.1 i.2

pub take-requires : goal.take-requires
take-requires g c =
    let i = c.loop.invariant in
    let l = c.look.ensures in
    let s = l.served i.0 (has_ticket c.args.self.now c.args.pass.now c.loop.pass i.0 i.2) (c.if-look-ticket.true ∙ i.1) in
    (l.pass.1 ∙ (i.2.1 ∙ c.requires.0.0), in_slot c.args.self.now c.args.pass.now c.loop.pass i.0 g.V.Chronicle.entries g.V.Chronicle.grown c.look.new.pass i.2 s)

pub returns-then-look-ticket : goal.returns-then-look-ticket
returns-then-look-ticket g c =
    let i = c.loop.invariant in
    let l = c.look.ensures in
    let s = l.served i.0 (has_ticket c.args.self.now c.args.pass.now c.loop.pass i.0 i.2) (c.if-look-ticket.true ∙ i.1) in
    let took = c.take.ensures in
    record {
      pass = turn_pass c.args.self.now c.args.pass.now c.loop.pass i.0 g.V.Chronicle.entries g.V.Chronicle.grown c.look.new.pass i.2 s c.take.new.pass c.take.result c.requires.0 l.pass.0 l.pass.1 took.value took.pass;
      history = turn_history c.args.self.now c.args.pass.now c.loop.pass i.0 g.V.Chronicle.entries g.V.Chronicle.grown c.look.new.pass i.2 s c.take.new.pass c.take.result c.requires.0 l.pass.0 l.pass.1 took.value took.pass;
      seen = turn_seen c.args.self.now c.args.pass.now c.loop.pass i.0 g.V.Chronicle.entries g.V.Chronicle.grown c.look.new.pass i.2 s c.take.new.pass c.take.result c.requires.0 l.pass.0 l.pass.1 took.value took.pass;
      own = turn_own c.args.self.now c.args.pass.now c.loop.pass i.0 g.V.Chronicle.entries g.V.Chronicle.grown c.look.new.pass i.2 s c.take.new.pass c.take.result c.requires.0 l.pass.0 l.pass.1 took.value took.pass;
      grown = turn_grown c.args.self.now c.args.pass.now c.loop.pass i.0 g.V.Chronicle.entries g.V.Chronicle.grown c.look.new.pass i.2 s c.take.new.pass c.take.result c.requires.0 l.pass.0 l.pass.1 took.value took.pass;
    }
