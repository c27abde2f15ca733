use Rattle.std.proofs.Common.{◌∙◌, sym, ap, arith}
use Rattle.fab_base.specs.Fabric.{same_enode}
use Rattle.fab_sending.proofs.ClearMade.{put_at, stays_at}
use Rattle.fab_sending.proofs.clears.add.Goals as goal
use Rattle.fab_sending.proofs.clears.add.Goals.{else-place-len-via-then-place-len+else-eq, else-place-len-via-else-place-len}

pub returns-then-eq : goal.returns-then-eq
returns-then-eq c =
    stays_at c.args.enode c.args.enodes.now.items c.as_slice.result.now c.place_of-place.result c.index.result.now c.place_of-place.ensures.place c.as_slice.ensures.value (omega arith)
    c.index.ensures (sym c.eq.ensures ∙ c.if-eq.true)

pub returns : goal.returns
returns c =
    elim c.else-place-len.branch [
      | else-place-len-via-then-place-len+else-eq w ↦
          put_at c.args.enode c.args.enodes.now.items c.as_slice.result.now _ c.place_of-place.result w.index.result.now c.place_of-place.ensures.place c.as_slice.ensures.value
          (λ inside. ap (same_enode c.args.enode) (sym w.index.ensures) ∙ sym w.eq.ensures ∙ w.if-eq.false) c.in_ok-insert.ensures.items
      | else-place-len-via-else-place-len w ↦
          put_at c.args.enode c.args.enodes.now.items c.as_slice.result.now _ c.place_of-place.result c.args.enode c.place_of-place.ensures.place c.as_slice.ensures.value
          (λ inside. absurd (omega arith)) c.in_ok-insert.ensures.items
    ]
