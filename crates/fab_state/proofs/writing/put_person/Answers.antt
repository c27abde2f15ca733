use Rattle.std.proofs.lemmas.Result.{on_ok_weaker}
use Rattle.fab_policy.specs.Text.{address_word}
use Rattle.fab_pieces.specs.Seam.{name_word}
use Rattle.std.proofs.Common.{[], ◌∷◌}
use Rattle.fab_state.proofs.WriteLemmas.{words_more, last_word}
use Rattle.fab_state.proofs.writing.put_person.Goals as goal

pub returns : goal.returns
returns c =
    let p = c.args.port.now in
    on_ok_weaker c.put_node.result
    (λ e.
    words_more c.args.out.now.items c.put_own_address.new.out.items c.put_node.new.out.items (address_word p.address) (name_word p.name ∷ name_word p.node ∷ []) c.in_ok-put_own_address.ensures
    (words_more c.put_own_address.new.out.items c.put_own_name.new.out.items c.put_node.new.out.items (name_word p.name) (name_word p.node ∷ []) c.in_ok-put_own_name.ensures
    (last_word c.put_own_name.new.out.items c.put_node.new.out.items (name_word p.node) e)))
    c.put_node.ensures
