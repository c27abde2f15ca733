use Rattle.std.proofs.Common.{◌+◌, ◌∷◌, [], ◌++◌, ◌∙◌, ap, arith}
use Rattle.fab_sending.specs.declared.message.Out.{Out}
use Rattle.fab_sending.specs.declared.message.OutMessage.TheVariants as out
use Rattle.fip_codec.specs.declared.message.VxPort.{VxPort}
use Rattle.std.proofs.Common.{List}
use Rattle.fab_sending.proofs.ClearMade.{group_more, groups_done}
use Rattle.fab_sending.proofs.clears.by_hundreds.Goals as goal

pub loop-done-preserved : goal.loop-done-preserved
loop-done-preserved c =
    let one : List VxPort → Out = λ g. record { port = c.args.enode.now.port; moment = c.args.moment; message = out.Clear c.args.enode.now.mac g } in (
      omega (arith, c.min.ensures, c.loop-done.invariant.0),
      group_more c.args.moment c.args.enode.now c.args.ports.now c.loop-done.done (c.loop-done.done + c.min.result) _ c.loop-done.outs _ c.loop-done-test.true
          (ap (λ n. c.loop-done.done + n) c.min.ensures) c.loop-done.invariant.1
          (c.in_ok-push.ensures.ok ∙ ap (λ g. c.loop-done.outs ++ one g ∷ []) (c.from_vec.ensures ∙ c.in_ok-group.ensures.items_if_clones_equal (λ x y same. same))),
    )

pub returns : goal.returns
returns c = groups_done c.args.moment c.args.enode.now c.args.ports.now c.loop-done.done _ c.loop-done.outs c.loop-done-test.false c.loop-done.invariant.1
