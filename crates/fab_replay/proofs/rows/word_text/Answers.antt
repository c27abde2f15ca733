use Rattle.std.proofs.Common.{◌≡◌, ◌∙◌, OnOk, subst, ap, sym}
use Rattle.hex.specs.Hex.{encode_lower}
use Rattle.fab_base.specs.Texts.{hex_bytes}
use Rattle.fab_base.proofs.LayoutLemmas.{AreBytes}
use Rattle.fab_base.proofs.TextLemmas.{encode_lower-hex, hex-spelled}
use Rattle.fab_replay.specs.Rows.{word_digits}
use Rattle.fab_replay.proofs.RowLemmas.{bytes_of_number}
use Rattle.fab_replay.proofs.rows.word_text.Goals as goal

pub returns : goal.returns
unfolding word_digits
returns c =
    subst (λ r. OnOk r (c.encode_to_slice.new.output ≡ encode_lower c.to_be_bytes.result)) c.unwrap.ensures c.encode_to_slice.ensures.written
    ∙ encode_lower-hex c.to_be_bytes.result (subst AreBytes (sym c.to_be_bytes.ensures) (bytes_of_number 4 c.args.word)) ∙ ap hex_bytes c.to_be_bytes.ensures ∙ sym (hex-spelled 4 c.args.word)
