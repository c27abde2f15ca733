use Rattle.fab_pieces.specs.Seam.{login_row}
use Rattle.fab_state.proofs.LineLemmas.{login_is_line}
use Rattle.fab_pieces.proofs.SeamLemmas.{same_values}
use Rattle.fab_state.proofs.lines.values_in.Goals as goal

pub returns : goal.returns
returns c p h e =
    let row = login_row p in
    let line = login_is_line p h in
    let v = p.values in
    same_values (c.name_of.ensures v.node_name h.ranged.node_name (c.word_at-4.ensures row line e)) (c.types_of.ensures v.types h.types h.ranged.types (c.word_at-5.ensures row line e))
    (c.in_ok-features.ensures v.features h.ranged.count h.ranged.features (c.word_at.ensures row line e)) (c.in_ok-symbol.ensures v.symbol h.ranged.symbol (c.word_at-2.ensures row line e))
    (c.in_ok-node_symbol.ensures v.node_symbol h.ranged.node_symbol (c.word_at-3.ensures row line e))
