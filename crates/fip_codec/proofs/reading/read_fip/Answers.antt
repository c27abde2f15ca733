use Rattle.std.proofs.Common.{Some, None, Ok, sym, ◌∙◌, ap, refl}
use Rattle.fip_codec.specs.Message.{view}
use Rattle.fip_codec.specs.Table.{named}
use Rattle.fip_codec.proofs.Grammar.{IsFip-from_decoded}
use Rattle.fip_codec.proofs.Walks.{decoded_list-is, told-is, err_by}
use Rattle.fip_codec.proofs.reading.read_fip.Goals as goal

pub returns-in_err-walk-clause-exact : goal.returns-in_err-walk-clause-exact
returns-in_err-walk-clause-exact c =
    let h = c.in_ok-header.header in
    let d = c.in_ok-header.ensures.cases ∙ decoded_list-is (named h.kind) c.args.body.now h.list.now h.flags (Some c.in_err-walk.field-0.0) _ c.in_ok-header.ensures.list c.in_ok-header.ensures.flags c.in_err-walk.ensures.cases refl in
    err_by c.from_residual-in_err-walk.result c.in_err-walk.field-0.0 _ _ c.from_residual-in_err-walk.ensures.1 d

pub returns-in-Some-clause-exact : goal.returns-in-Some-clause-exact
returns-in-Some-clause-exact c =
    let h = c.in_ok-header.header in
    c.in_ok-header.ensures.cases ∙ decoded_list-is (named h.kind) c.args.body.now h.list.now h.flags None (Some c.in-Some.fault) c.in_ok-header.ensures.list c.in_ok-header.ensures.flags c.in_ok-walk.ensures.cases (sym c.missing.ensures ∙ c.in-Some.is)

pub returns-in-None-clause-exact : goal.returns-in-None-clause-exact
returns-in-None-clause-exact c =
    let h = c.in_ok-header.header in
    c.in_ok-header.ensures.cases ∙ decoded_list-is (named h.kind) c.args.body.now h.list.now h.flags None None c.in_ok-header.ensures.list c.in_ok-header.ensures.flags c.in_ok-walk.ensures.cases (sym c.missing.ensures ∙ c.in-None.is)
    ∙ ap Ok (sym (told-is (named h.kind) h.flags h.list.now) ∙ sym c.message.ensures)

pub returns-in-None-clause-grammar : goal.returns-in-None-clause-grammar
returns-in-None-clause-grammar c = IsFip-from_decoded (view c.message.result) c.args.body.now (returns-in-None-clause-exact c)
