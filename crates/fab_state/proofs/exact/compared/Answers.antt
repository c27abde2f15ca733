use Rattle.std.proofs.Common.{◌≡◌, ◌∙◌, ◌++◌, ap, sym, refl}
use Rattle.std.specs.Str.{bytes_eq}
use Rattle.std.proofs.lemmas.Slice.Eq.{bytes_eq-Decides}
use Rattle.fab_pieces.specs.Seam.{seam_text}
use Rattle.fab_state.specs.Reading.{other_line}
use Rattle.fab_state.proofs.ReadLemmas.{not_both}
use Rattle.fab_state.proofs.exact.compared.Goals as goal

pub returns-then-eq-clause-ok : goal.returns-then-eq-clause-ok
returns-then-eq-clause-ok c =
    let bytes = c.as_slice-bytes.result.now in
    let is : bytes ≡ seam_text c.args.seam = c.as_slice-bytes.ensures.value ∙ c.in-Ok.ensures.ok ∙ ap (λ l. l ++ seam_text c.args.seam) c.new-written.ensures.items in
    (refl, sym ((bytes_eq-Decides bytes c.args.text.now).0 (sym c.if-eq.ensures)) ∙ is)

pub returns-else-eq-clause-refused : goal.returns-else-eq-clause-refused
returns-else-eq-clause-refused c =
    let bytes = c.as_slice-bytes.result.now in
    let is : bytes ≡ seam_text c.args.seam = c.as_slice-bytes.ensures.value ∙ c.in-Ok.ensures.ok ∙ ap (λ l. l ++ seam_text c.args.seam) c.new-written.ensures.items in (
      λ s h e. not_both (bytes_eq bytes c.args.text.now) ((bytes_eq-Decides bytes c.args.text.now).1 (is ∙ ap seam_text (c.requires.said s h e) ∙ sym e)) (sym c.if-eq.ensures),
      (c.args.seam, c.other_line.ensures ∙ ap (λ l. other_line l c.args.text.now) is),
    )
