use Rattle.std.proofs.Common.{◌≡◌, ◌++◌, ◌∙◌, OnOk, Some, subst}
use Rattle.fab_vectors.specs.Frames.{TAG}
use Rattle.fab_vectors.specs.Names.{FORWARDER}
use Rattle.fab_vectors.proofs.FrameLemmas.{same_eth}
use Rattle.fab_vectors.proofs.fcoe.write_payload.Goals as goal

pub returns-clause-ok : goal.returns-clause-ok
returns-clause-ok c =
    let is = same_eth FORWARDER _ _ (Some TAG) 0x8906 _ _ c.granted_mac.ensures (c.deref.ensures.value ∙ c.in_ok-body.ensures.bytes) in
    subst (λ l. OnOk c.write_eth.result (c.write_eth.new.out.items ≡ c.args.out.now.items ++ l)) is c.write_eth.ensures.ok
