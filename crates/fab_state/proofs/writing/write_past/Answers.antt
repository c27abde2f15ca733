use Rattle.std.proofs.lemmas.Result.{on_ok_weaker}
use Rattle.std.proofs.Common.{[], ◌∷◌, codes}
use Rattle.fab_policy.specs.Text.{address_word}
use Rattle.fab_pieces.specs.Seam.{may_word, name_word}
use Rattle.fab_state.proofs.WriteLemmas.{more_word, whole_line}
use Rattle.fab_state.proofs.writing.write_past.Goals as goal

pub returns : goal.returns
returns c =
    let q = c.args.past.now in
    let o1 = c.extend_from_slice.new.self.items in
    let o2 = c.put_past.new.out.items in
    let o3 = c.put_name.new.out.items in
    let o4 = c.end_past.new.out.items in
    let n = name_word c.args.name.now in
    on_ok_weaker c.end_past.result
    (λ e.
    whole_line c.args.out.now.items o1 o4 (codes "address") (address_word q.address ∷ n ∷ may_word q.ended) c.in_ok-extend_from_slice.ensures.items
    (more_word o1 o2 o4 (address_word q.address) (n ∷ may_word q.ended) c.in_ok-put_past.ensures (more_word o2 o3 o4 n (may_word q.ended) c.in_ok-put_name.ensures e)))
    c.end_past.ensures
