use Rattle.std.proofs.Common.{◌≡◌, ◌≤◌, ◌++◌, ◌∙◌, OnOk, Some, length, ap, subst}
use Rattle.fab_policy.specs.Logins.{granted_mac}
use Rattle.fab_sending.proofs.FipLemmas.{same_reply}
use Rattle.fab_sending.proofs.fip.write_login_accept.Goals as goal

pub returns-clause-ok : goal.returns-clause-ok
returns-clause-ok c =
    let is = same_reply c.args.config.now c.args.kind _ c.args.to.mac _ _ _ _ (ap (λ a. a.mac) c.to.view_is) (c.deref.ensures.value ∙ c.in_ok-frame.ensures.bytes) (ap Some (c.fpma.ensures ∙ ap (λ s. granted_mac s c.args.address) c.config.view_is)) in
    subst (λ l. OnOk c.write_reply.result (c.write_reply.new.into.items ≡ c.args.into.now.items ++ l)) is c.write_reply.ensures.ok

pub returns-clause-size : goal.returns-clause-size
returns-clause-size c =
    let is = same_reply c.args.config.now c.args.kind _ c.args.to.mac _ _ _ _ (ap (λ a. a.mac) c.to.view_is) (c.deref.ensures.value ∙ c.in_ok-frame.ensures.bytes) (ap Some (c.fpma.ensures ∙ ap (λ s. granted_mac s c.args.address) c.config.view_is)) in
    subst (λ l. OnOk c.write_reply.result (length l ≤ 65535)) is c.write_reply.ensures.size
