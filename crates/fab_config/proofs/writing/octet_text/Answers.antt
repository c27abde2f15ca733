use Rattle.std.proofs.Common.{◌≡◌, ◌∙◌, zero, suc, [], ◌∷◌, OnOk, subst, arith}
use Rattle.std.proofs.Math.Facts.{Fits-lt-pow}
use Rattle.hex.specs.Hex.{encode_lower}
use Rattle.fab_base.proofs.TextLemmas.{encode_lower-hex}
use Rattle.fab_base.proofs.LayoutLemmas.{AreBytes}
use Rattle.fab_config.proofs.writing.octet_text.Goals as goal

pub returns : goal.returns
returns c =
    subst (λ r. OnOk r (c.encode_to_slice.new.output ≡ encode_lower (c.args.byte ∷ []))) c.unwrap.ensures c.encode_to_slice.ensures.written
    ∙ encode_lower-hex (c.args.byte ∷ []) one
  where
    one : AreBytes (c.args.byte ∷ [])
    one zero = Fits-lt-pow c.ranges.byte
    one (suc i) = omega arith
