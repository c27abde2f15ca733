use Rattle.std.proofs.Common.{◌<◌, ◌^◌, ◌∙◌, ℕ, subst, sym}
use Rattle.fab_base.specs.Layout.{spelled}
use Rattle.fab_base.proofs.LayoutLemmas.{length-spelled}
use Rattle.fab_base.proofs.TextLemmas.{hex-spelled}
use Rattle.fab_state.proofs.ReadLemmas.{address_is, spelled_below}
use Rattle.fab_state.proofs.words.address_of.Goals as goal

pub returns : goal.returns
returns c a small e =
    let bytes = c.read_digits.ensures (spelled 3 a) (spelled_below 3 a) (length-spelled 3 a) (e ∙ hex-spelled 3 a) in
    let number = address_is c.read_digits.new.bytes a c.from_be_bytes.result small bytes c.from_be_bytes.ensures in
    c.address_of_number.ensures (subst (λ (n : ℕ). n < 2 ^ 24) (sym number) small) ∙ number
