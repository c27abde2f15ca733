use Rattle.std.proofs.Common.{◌∙◌, ◌++◌, ap, flat_map, take, refl}
use Rattle.std.proofs.lemmas.List.{take_all}
use Rattle.fab_sending.specs.Clearing.{clears_to, in_hundreds}
use Rattle.fab_sending.specs.Messages.{at_moment}
use Rattle.fab_sending.proofs.ClearMade.{cleared_more, clears_sendable}
use Rattle.fab_sending.proofs.Counting.{take_item}
use Rattle.fab_sending.proofs.clears.clears.Goals as goal

pub loop-enode-preserved : goal.loop-enode-preserved
loop-enode-preserved c =
    let xs = c.deref-enode-items.result.now in
    cleared_more c.args.config.now c.args.moment c.args.ended.now xs c.loop-enode.enode-index c.enode-item.result c.loop-enode.outs _
    (take_item xs xs c.loop-enode.enode-index c.enode-item.result refl c.loop-enode-test.true c.enode-item.is) c.loop-enode.invariant
    (c.in_ok-clear.ensures.ok ∙ ap (λ l. c.loop-enode.outs ++ at_moment c.args.moment (in_hundreds c.enode-item.result l)) (c.as_slice.ensures.value ∙ c.in_ok-ports.ensures))

pub returns-clause-made : goal.returns-clause-made
returns-clause-made c =
    c.loop-enode.invariant
    ∙ ap (λ l. at_moment c.args.moment (flat_map (clears_to c.args.config.now c.args.ended.now) l))
    (take_all c.loop-enode.enode-index c.deref-enode-items.result.now c.loop-enode-test.false ∙ c.deref-enode-items.ensures.value ∙ c.in_ok-enodes.ensures)

pub returns-clause-sendable : goal.returns-clause-sendable
returns-clause-sendable c = λ events.
    clears_sendable events c.args.config.now c.args.moment c.args.ended.now (take c.loop-enode.enode-index c.deref-enode-items.result.now) c.loop-enode.outs c.loop-enode.invariant
