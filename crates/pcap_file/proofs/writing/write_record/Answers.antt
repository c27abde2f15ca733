use Rattle.std.proofs.Common.{◌++◌, length, append_assoc, ap, ◌∙◌}
use Rattle.pcap_file.specs.Capture.{record_front}
use Rattle.pcap_file.proofs.writing.write_record.Goals as goal

pub returns-clause-ok : goal.returns-clause-ok
returns-clause-ok c =
    let reserved = c.in_ok-reserve.ensures.items in
    let headed = c.in_ok-extend_from_slice.ensures.items in
    let whole = c.in_ok-extend_from_slice-2.ensures.items in
    let head = c.as_slice.ensures.value ∙ c.record_head-head.ensures.bytes in
    whole ∙ ap (λ l. l ++ c.args.bytes.now) (headed ∙ (λ i. reserved i ++ head i))
    ∙ append_assoc c.args.out.now.items (record_front c.args.moment (length c.args.bytes.now)) c.args.bytes.now
