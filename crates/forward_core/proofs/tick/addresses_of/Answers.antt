use Rattle.std.proofs.Common.{◌∙◌, ◌∷◌, [], ◌++◌, take, ap, sym}
use Rattle.std.proofs.lemmas.List.{map-append}
use Rattle.fab_roster.specs.Roll.{Login, addresses_of}
use Rattle.fab_sending.proofs.Counting.{take_item}
use Rattle.forward_core.proofs.tick.addresses_of.Goals as goal

pub loop-login-preserved : goal.loop-login-preserved
loop-login-preserved c =
    let l = c.login-item.result in
    let done = take c.loop-login.login-index c.args.logins.now in
    c.in_ok-push.ensures.ok ∙ ap (λ ids. ids ++ l.address ∷ []) c.loop-login.invariant
    ∙ sym (ap addresses_of (take_item c.items-login-items.result.now c.args.logins.now c.loop-login.login-index l c.items-login-items.ensures c.loop-login-test.true c.login-item.is)
    ∙ map-append (λ (x : Login). x.address) done (l ∷ []))
