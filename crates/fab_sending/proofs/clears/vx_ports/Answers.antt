use Rattle.std.proofs.Common.{◌∙◌, ◌∷◌, [], ◌++◌, true, false, sym, ap}
use Rattle.std.proofs.lemmas.List.{append-nil}
use Rattle.fab_sending.proofs.ClearMade.{vx_port_more}
use Rattle.fab_sending.proofs.Counting.{take_item}
use Rattle.fab_sending.proofs.clears.vx_ports.Goals as goal
use Rattle.fab_sending.proofs.clears.vx_ports.Goals.{then-eq+in_ok-push, else-eq}

pub loop-login-preserved : goal.loop-login-preserved
loop-login-preserved c =
    let logins = c.args.logins.now in
    let i = c.loop-login.login-index in
    let l = c.login-item.result in
    let next = take_item c.items-login-items.result.now logins i l c.items-login-items.ensures c.loop-login-test.true c.login-item.is in
    elim c.if-eq.branch [
      | then-eq+in_ok-push w ↦
          vx_port_more c.args.config.now c.args.enode.now logins i l true c.loop-login.ports.items c.if-eq.ports.items next (sym c.eq.ensures ∙ w.if-eq.true) c.loop-login.invariant
          (ap (λ v. v.items) w.ports-is ∙ w.in_ok-push.ensures.items ∙ ap (λ p. c.loop-login.ports.items ++ p ∷ []) w.vx_port.ensures)
      | else-eq w ↦
          vx_port_more c.args.config.now c.args.enode.now logins i l false c.loop-login.ports.items c.if-eq.ports.items next (sym c.eq.ensures ∙ w.if-eq.false) c.loop-login.invariant
          (ap (λ v. v.items) w.ports-is ∙ sym (append-nil c.loop-login.ports.items))
    ]
