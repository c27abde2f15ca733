use Rattle.std.proofs.Common.{[], flat_map, sym, ap, ◌∙◌, map-id, rules}
use Rattle.std.proofs.Output.{has_written_append, has_written_of_eq}
use Rattle.std.proofs.lemmas.List.{flat_map_more}
use Rattle.std.proofs.lemmas.Iterator.{YieldsList-from_chars}
use Rattle.std.proofs.lemmas.Iterator.Consumers.{YieldsList-end}
use Rattle.tool_process.specs.Line.{sign_of}
use Rattle.tool_process.proofs.line.write_name.Goals as goal

pub loop-sign-preserved : goal.loop-sign-preserved
loop-sign-preserved g c = λ plain.
    has_written_of_eq _ _ _ _ _ (flat_map_more sign_of [] c.loop-sign.yielded c.in-Some.sign) (has_written_append _ _ _ _ _ _ (c.loop-sign.invariant plain) (search rules))

pub returns : goal.returns
returns g c = λ plain ok.
    let end = YieldsList-end (YieldsList-from_chars c.args.name.now c.utf8.name cc) c.loop-sign.yielded _ c.loop-sign.yielded_by _ _ c.in-None.is c.next.ensures.steps in
    has_written_of_eq _ _ _ _ _ (ap (flat_map sign_of) (sym (map-id c.loop-sign.yielded) ∙ end.0)) (c.loop-sign.invariant plain)
