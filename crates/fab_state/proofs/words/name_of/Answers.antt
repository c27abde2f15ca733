use Rattle.std.proofs.Common.{◌∙◌}
use Rattle.fab_base.specs.Layout.{spelled}
use Rattle.fab_base.proofs.LayoutLemmas.{length-spelled}
use Rattle.fab_base.proofs.TextLemmas.{hex-spelled}
use Rattle.fab_state.proofs.ReadLemmas.{name_is, spelled_below}
use Rattle.fab_state.proofs.words.name_of.Goals as goal

pub returns : goal.returns
returns c n small e =
    let bytes = c.read_digits.ensures (spelled 8 n) (spelled_below 8 n) (length-spelled 8 n) (e ∙ hex-spelled 8 n) in
    name_is c.read_digits.new.bytes n c.from_be_bytes.result small bytes c.from_be_bytes.ensures
