use Rattle.std.proofs.Common.{◌≡◌, ◌∙◌, ◌++◌, ℕ, drop, ap, sym, add-one, arith}
use Rattle.std.specs.Prelude.{flat_map}
use Rattle.fab_pieces.specs.Seam.{row_text}
use Rattle.fab_state.proofs.LineLemmas.{lines_end, lines_step}
use Rattle.fab_state.proofs.lines.behind_lines.Goals as goal

pub loop-index-preserved : goal.loop-index-preserved
loop-index-preserved c rows more lines all e =
    lines_step rows c.loop-index.index c.loop-index.rest.now c.cut_line.result.1.now more lines (let low = c.loop-index-test.true in omega (arith, low, all)) (c.loop-index.invariant rows more lines all e)
    (λ ws m line is. (c.cut_line.ensures.line ws m line is).1)
    ∙ ap (λ (k : ℕ). flat_map row_text (drop k rows) ++ more) (sym (add-one c.loop-index.index))

pub returns : goal.returns
returns c rows more lines all e = lines_end rows c.loop-index.index c.loop-index.rest.now more (all ∙ (let at : c.args.count ≡ c.loop-index.index = omega arith in at)) (c.loop-index.invariant rows more lines all e)
