use Rattle.std.proofs.Common.{◌++◌, ap, ◌∙◌}
use Rattle.fip_codec.specs.Message.{view_out}
use Rattle.fip_codec.specs.Written.{list_out}
use Rattle.fip_codec.proofs.Appends.{written_put}
use Rattle.fip_codec.proofs.writing.write_fip.Goals as goal

pub returns-clause-ok : goal.returns-clause-ok
returns-clause-ok c =
    let m = view_out c.args.message.now in
    let one = c.append_reserved.new.out.items in
    written_put m c.args.out.now.items one c.append_reserved-2.new.out.items c.head_of.result c.put_list.new.list.items c.head_of.ensures
    (c.put_list.ensures.bytes ∙ ap (λ l. l ++ list_out m) c.new-list.ensures)
    (c.append_reserved.ensures.bytes ∙ ap (λ l. l ++ c.head_of.result) c.in_ok-reserve.ensures.items)
    (c.append_reserved-2.ensures.bytes ∙ ap (λ l. one ++ l) c.deref.ensures.0)
