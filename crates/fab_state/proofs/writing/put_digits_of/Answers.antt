use Rattle.std.proofs.Common.{◌∙◌, ◌++◌, ap, sym}
use Rattle.std.proofs.lemmas.Result.{on_ok_weaker}
use Rattle.fab_base.specs.Texts.{hex_bytes}
use Rattle.fab_base.proofs.TextLemmas.{hex-spelled}
use Rattle.fab_state.proofs.writing.put_digits_of.Goals as goal

pub returns : goal.returns
returns c =
    on_ok_weaker c.put_digits.result
    (λ e. e ∙ ap (λ l. c.args.out.now.items ++ l) (ap hex_bytes c.to_be_bytes.ensures ∙ sym (hex-spelled 4 c.args.word)))
    c.put_digits.ensures
