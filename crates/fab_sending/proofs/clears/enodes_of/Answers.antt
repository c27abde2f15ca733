use Rattle.std.proofs.Common.{◌∙◌, ◌-◌, slice_get, sym, ap, arith}
use Rattle.std.specs.Option.{option_copied}
use Rattle.fab_sending.proofs.ClearMade.{enode_more}
use Rattle.fab_sending.proofs.clears.enodes_of.Goals as goal

pub loop-done-preserved : goal.loop-done-preserved
loop-done-preserved c =
    enode_more c.args.logins.now c.loop-done.done c.unwrap-login.result.now c.loop-done.enodes.items _ (omega arith) c.loop-done.invariant
    (sym (ap (λ n. slice_get c.args.logins.now (n - 1 - c.loop-done.done)) c.len.ensures) ∙ sym c.at.ensures ∙ ap option_copied c.unwrap-login.ensures) c.in_ok-add.ensures
