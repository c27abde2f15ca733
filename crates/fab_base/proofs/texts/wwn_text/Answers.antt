use Rattle.std.proofs.Common.{◌∙◌, ℕ, ap, sym}
use Rattle.fab_base.specs.Texts.{hex, hex_bytes}
use Rattle.fab_base.proofs.TextLemmas.{hex-spelled}
use Rattle.fab_base.proofs.texts.wwn_text.Goals as goal

pub returns : goal.returns
returns c = c.write_digits.ensures ∙ ap hex_bytes c.to_be_bytes.ensures ∙ sym (hex-spelled 8 c.name.inside.0) ∙ ap (λ (n : ℕ). hex 16 n) c.name.view_is
