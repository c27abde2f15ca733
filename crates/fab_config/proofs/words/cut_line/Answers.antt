use Rattle.std.proofs.Common.{◌∙◌, ◌+◌, [], ◌∷◌, drop, sym, ap, arith}
use Rattle.std.proofs.lemmas.List.{take_rest}
use Rattle.fab_config.specs.Lines.{lines_of}
use Rattle.fab_config.proofs.LineLemmas.{lines_cut, lines_whole}
use Rattle.fab_config.proofs.words.cut_line.Goals as goal

pub returns-then-end-text-clause-lines : goal.returns-then-end-text-clause-lines
returns-then-end-text-clause-lines c =
    let l = c.args.text.now in
    let i = c.line_end-end.result in
    lines_cut l i c.line_end-end.ensures.before c.if-end-text.true (c.line_end-end.ensures.found c.if-end-text.true)
    ∙ ap (λ w. w ∷ lines_of (drop (i + 1) l)) (sym c.without_return.ensures.line)
    ∙ ap (λ r. c.without_return.result.now ∷ lines_of r) (sym (take_rest l (i + 1)))

pub returns-else-end-text-clause-lines : goal.returns-else-end-text-clause-lines
returns-else-end-text-clause-lines c =
    lines_whole c.args.text.now c.requires (λ k lt. c.line_end-end.ensures.before k (omega (arith, c.if-end-text.false)))
    ∙ ap (λ w. w ∷ lines_of []) (sym c.without_return-else-end-text.ensures.line)
