use Rattle.std.proofs.Common.{◌++◌, ap, ◌∙◌}
use Rattle.fab_base.specs.Layout.{spelled}
use Rattle.fab_base.proofs.LayoutLemmas.{appended_two}
use Rattle.fip_codec.proofs.writing.put_name.Goals as goal

pub returns-clause-bytes : goal.returns-clause-bytes
returns-clause-bytes c =
    appended_two c.args.list.now.items _ _ _ _ c.put.ensures.bytes (c.put-2.ensures.bytes ∙ ap (λ b. c.put.new.list.items ++ b) (c.to_be_bytes.ensures ∙ ap (spelled 8) c.name.view_is))
