use Rattle.std.proofs.Common.{◌∙◌, ℕ, ap, sym, take, drop}
use Rattle.fab_base.specs.Layout.{spelled}
use Rattle.fab_base.specs.Texts.{hex_bytes}
use Rattle.fab_base.proofs.TextLemmas.{hex-spelled}
use Rattle.fab_base.proofs.texts.address_text.Goals as goal

pub returns : goal.returns
returns c =
    c.write_digits.ensures ∙ ap (λ l. hex_bytes (take 3 (drop 1 l))) c.to_be_bytes.ensures
    ∙ ap (λ (n : ℕ). hex_bytes (spelled 3 n)) c.value.ensures.value ∙ sym (hex-spelled 3 c.args.address.now)
