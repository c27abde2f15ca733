use Rattle.std.proofs.Common.{arith, refl, sym, ◌∙◌}
use Rattle.fcoe_codec.proofs.FcoeLemmas.{decoded-is, layout}
use Rattle.fcoe_codec.proofs.reading.read_fcoe.Goals as goal

pub returns-clause-layout : goal.returns-clause-layout
returns-clause-layout c =
    layout c.args.body.now c.covered-covered.result.now _ _ _ (λ i. let f = c.type_inv.body i in omega arith) (omega arith) c.if-body-ne0.false
    refl (sym c.is_sof.ensures ∙ c.if-not-is_sof.false) refl (sym c.is_eof.ensures ∙ c.if-not-is_eof.false)
    c.covered-covered.ensures c.frame_in.ensures.layout (sym c.check_at.ensures ∙ c.in_ok-test_crc.ensures.ok)

pub returns-clause-exact : goal.returns-clause-exact
returns-clause-exact c = decoded-is _ c.args.body.now (returns-clause-layout c)
