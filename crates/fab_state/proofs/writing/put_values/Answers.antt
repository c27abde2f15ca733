use Rattle.std.proofs.lemmas.Result.{on_ok_weaker}
use Rattle.fab_pieces.specs.Seam.{bytes_word, features_word, name_word, types_word}
use Rattle.std.proofs.Common.{[], ◌∷◌}
use Rattle.fab_state.proofs.WriteLemmas.{words_more, last_word}
use Rattle.fab_state.proofs.writing.put_values.Goals as goal

pub returns : goal.returns
returns c =
    let v = c.args.values.now in
    let o = c.args.out.now.items in
    let o1 = c.put_registered_node.new.out.items in
    let o2 = c.put_map.new.out.items in
    let o3 = c.put_kinds.new.out.items in
    let o4 = c.put_symbol.new.out.items in
    let o5 = c.put_node_symbol.new.out.items in
    let f = features_word v.features in
    let s = bytes_word v.symbol in
    let y = bytes_word v.node_symbol in
    on_ok_weaker c.put_node_symbol.result
    (λ e.
    words_more o o1 o5 (name_word v.node_name) (types_word v.types ∷ f ∷ s ∷ y ∷ []) c.in_ok-put_registered_node.ensures
    (words_more o1 o2 o5 (types_word v.types) (f ∷ s ∷ y ∷ []) c.in_ok-put_map.ensures
    (words_more o2 o3 o5 f (s ∷ y ∷ []) c.in_ok-put_kinds.ensures (words_more o3 o4 o5 s (y ∷ []) c.in_ok-put_symbol.ensures (last_word o4 o5 y e)))))
    c.put_node_symbol.ensures
