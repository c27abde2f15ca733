use Rattle.std.proofs.Common.{◌≡◌, ◌≤◌, ◌++◌, ◌∙◌, OnOk, None, length, ap, subst, refl}
use Rattle.fab_sending.proofs.FipLemmas.{same_reply}
use Rattle.fab_sending.proofs.fip.write_login_reply.Goals as goal

pub returns-clause-ok : goal.returns-clause-ok
returns-clause-ok c =
    let is = same_reply c.args.config.now c.args.kind _ c.args.to.mac _ _ None None (ap (λ a. a.mac) c.to.view_is) (c.deref.ensures.value ∙ c.in_ok-frame.ensures.bytes) refl in
    subst (λ l. OnOk c.write_reply.result (c.write_reply.new.into.items ≡ c.args.into.now.items ++ l)) is c.write_reply.ensures.ok

pub returns-clause-size : goal.returns-clause-size
returns-clause-size c =
    let is = same_reply c.args.config.now c.args.kind _ c.args.to.mac _ _ None None (ap (λ a. a.mac) c.to.view_is) (c.deref.ensures.value ∙ c.in_ok-frame.ensures.bytes) refl in
    subst (λ l. OnOk c.write_reply.result (length l ≤ 65535)) is c.write_reply.ensures.size
