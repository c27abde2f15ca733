use Rattle.std.proofs.Common.{ap, ◌∙◌, subst, arith, rules}
use Rattle.atomic_table.specs.Table.{Splits}
use Rattle.fab_turn.specs.Views.{role_of}
use Rattle.fab_turn.specs.Rule.{IsOneHistory}
use Rattle.fab_turn.specs.Steps.{gave, worker}
use Rattle.fab_turn.proofs.SplitKept.{splits}
use Rattle.fab_turn.proofs.board.TurnLock.give.Goals as goal

pub split_seat-seat-requires : goal.split_seat-seat-requires
split_seat-seat-requires g c =
    let root = c.requires.root in
    let v = c.args.root.now.seat.me.0 in
    let number = c.value-number.ensures in (
      search rules,
      omega (arith, c.args.self.now.sized.0),
      subst (λ p. Splits (IsOneHistory g.V.Chronicle.entries g.V.Chronicle.port_of g.V.Chronicle.grown c.args.self.now.table.shared.key.value) c.args.root.now.seat.id v (gave p v) (worker p v)) c.requires.named
          (splits g.V.Chronicle.entries g.V.Chronicle.port_of g.V.Chronicle.grown _ _ c.args.port _ (root.0.0.1 ∙ ap role_of root.0.1) c.requires.new_port (omega (arith, number.value, number.range.0)) (omega (arith, number.value, number.range.1))),
    )
