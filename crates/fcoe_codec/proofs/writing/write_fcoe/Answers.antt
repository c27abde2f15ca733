use Rattle.std.proofs.Common.{◌++◌, drop, sym, ap, ◌∙◌}
use Rattle.fc_check.specs.Crc.{crc, crc_bytes}
use Rattle.fcoe_codec.specs.Fcoe.{view}
use Rattle.fcoe_codec.proofs.FcoeLemmas.{length-written, appended, from_ok}
use Rattle.fcoe_codec.proofs.writing.write_fcoe.Goals as goal

pub returns-clause-size : goal.returns-clause-size
returns-clause-size c = length-written (view c.args.frame.now)

pub returns-clause-ok : goal.returns-clause-ok
returns-clause-ok c =
    let old = c.args.out.now.items in
    let start = c.start_with.result in
    let two = c.write_frame.new.out.items in
    let check = c.check_of-check.result in
    appended (view c.args.frame.now) old c.append_reserved.new.out.items two c.append_reserved-2.new.out.items c.append_reserved-3.new.out.items check c.len-from.result
    (c.append_reserved.ensures.bytes ∙ ap (λ l. l ++ start) c.in_ok-reserve.ensures.items ∙ ap (λ l. old ++ l) c.start_with.ensures)
    (sym (c.len-from.ensures ∙ c.append_reserved.new.out.ok.0)) (from_ok c.write_frame.result c.unwrap.result c.unwrap.ensures c.write_frame.ensures.ok)
    (c.check_of-check.ensures ∙ ap (λ l. crc_bytes (crc (drop c.len-from.result l))) c.deref.ensures.value)
    c.append_reserved-2.ensures.bytes
    c.append_reserved-3.ensures.bytes
