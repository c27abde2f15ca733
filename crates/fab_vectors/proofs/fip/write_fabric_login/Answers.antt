use Rattle.std.proofs.Common.{◌≡◌, ◌≤◌, ◌++◌, ◌∙◌, OnOk, Some, length, subst}
use Rattle.fab_base.specs.Layout.{zeros}
use Rattle.fab_vectors.specs.Frames.{TAG}
use Rattle.fab_vectors.specs.Names.{FORWARDER}
use Rattle.fab_vectors.proofs.FrameLemmas.{same_login}
use Rattle.fab_vectors.proofs.fip.write_fabric_login.Goals as goal

pub returns-clause-ok : goal.returns-clause-ok
returns-clause-ok c =
    let is = same_login (Some TAG) FORWARDER c.args.port _ _ _ _ (zeros 6) c.login_kind.ensures (c.deref.ensures.value ∙ c.in_ok-frame.ensures.bytes) in
    subst (λ l. OnOk c.write_message.result (c.write_message.new.out.items ≡ c.args.out.now.items ++ l)) is c.write_message.ensures.ok

pub returns-clause-size : goal.returns-clause-size
returns-clause-size c =
    let is = same_login (Some TAG) FORWARDER c.args.port _ _ _ _ (zeros 6) c.login_kind.ensures (c.deref.ensures.value ∙ c.in_ok-frame.ensures.bytes) in
    subst (λ l. OnOk c.write_message.result (length l ≤ 65535)) is c.write_message.ensures.size
