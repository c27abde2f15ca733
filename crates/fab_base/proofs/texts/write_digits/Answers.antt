use Rattle.std.proofs.Common.{◌≡◌, ◌∙◌, OnOk, subst}
use Rattle.std.proofs.Math.Facts.{Fits-lt-pow}
use Rattle.hex.specs.Hex.{encode_lower}
use Rattle.fab_base.proofs.TextLemmas.{encode_lower-hex}
use Rattle.fab_base.proofs.texts.write_digits.Goals as goal

pub returns : goal.returns
returns c =
    subst (λ r. OnOk r (c.encode_to_slice.new.output ≡ encode_lower c.args.bytes.now)) c.unwrap.ensures c.encode_to_slice.ensures.written
    ∙ encode_lower-hex c.args.bytes.now (λ i. Fits-lt-pow (c.type_inv.bytes i))
