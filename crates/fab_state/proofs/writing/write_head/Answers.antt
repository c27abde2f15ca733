use Rattle.std.proofs.lemmas.Result.{on_ok_weaker}
use Rattle.std.proofs.Common.{[], ◌∷◌, codes, decimal}
use Rattle.fab_pieces.specs.Seam.{may_word, row_text}
use Rattle.fab_state.proofs.WriteLemmas.{five_words}
use Rattle.fab_state.proofs.writing.write_head.Goals as goal

pub returns : goal.returns
returns c =
    let s = c.args.seam.now in
    on_ok_weaker c.write_greatest.result
    (λ e.
    five_words c.args.out.now.items (row_text (codes "state" ∷ codes "1" ∷ [])) (row_text (codes "clock" ∷ may_word s.state.tables.clock)) (row_text (codes "advertised" ∷ may_word s.state.advertised))
    (row_text (codes "changes" ∷ decimal s.state.rscns ∷ [])) (row_text (codes "greatest" ∷ decimal s.greatest ∷ []))
    c.write_format.new.out.items c.write_clock.new.out.items c.write_advertised.new.out.items c.write_changes.new.out.items c.write_greatest.new.out.items
    c.in_ok-write_format.ensures c.in_ok-write_clock.ensures c.in_ok-write_advertised.ensures c.in_ok-write_changes.ensures e)
    c.write_greatest.ensures
