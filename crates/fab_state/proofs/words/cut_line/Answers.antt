use Rattle.std.proofs.Common.{◌∙◌, ◌+◌}
use Rattle.fab_pieces.specs.Seam.{row_text}
use Rattle.fab_state.proofs.ReadLemmas.{cut_there, line_ends, not_last}
use Rattle.fab_state.proofs.words.cut_line.Goals as goal

pub returns-then-end-text-clause-line : goal.returns-then-end-text-clause-line
returns-then-end-text-clause-line c ws more h e =
    let at = line_ends ws c.args.text.now more c.feed_at-end.result h e c.feed_at-end.ensures.bound c.feed_at-end.ensures.inside c.feed_at-end.ensures.ends in
    let cut = cut_there (row_text ws) more c.args.text.now (c.feed_at-end.result + 1) e at in
    (c.split_at.ensures.front ∙ cut.0, c.split_at.ensures.back ∙ cut.1)

pub returns-else-end-text-clause-line : goal.returns-else-end-text-clause-line
returns-else-end-text-clause-line c ws more h e =
    let at = line_ends ws c.args.text.now more c.feed_at-end.result h e c.feed_at-end.ensures.bound c.feed_at-end.ensures.inside c.feed_at-end.ensures.ends in
    absurd (not_last ws c.args.text.now more c.feed_at-end.result e at c.if-end-text.false)
