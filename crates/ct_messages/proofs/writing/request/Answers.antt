use Rattle.std.proofs.Common.{◌%◌, ◌++◌, ap, ◌∙◌}
use Rattle.ct_messages.specs.Ct.{view, preamble}
use Rattle.ct_messages.proofs.Words.{written_put}
use Rattle.ct_messages.proofs.writing.request.Goals as goal

pub returns-clause-bytes : goal.returns-clause-bytes
returns-clause-bytes c =
    written_put (view c.args.ask.now) c.extend_from_slice.new.self.items c.put_body.new.bytes.items c.put_zeros.new.bytes.items _
    (c.in_ok-extend_from_slice.ensures.items ∙ ap (λ l. l ++ c.preamble.result) c.in_ok-bytes.ensures.items ∙ c.preamble.ensures ∙ ap (λ n. preamble n 0 0) c.code_of.ensures)
    c.in_ok-put_body.ensures.bytes (ap (λ n. n % 4) (c.len-odd.ensures ∙ c.put_body.new.bytes.ok.0)) c.in_ok-put_zeros.ensures.bytes
