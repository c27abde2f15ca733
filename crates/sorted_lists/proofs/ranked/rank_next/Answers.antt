use Rattle.std.proofs.Common.{ℕ, ◌∙◌, ap, sym, arith, slice_get, nat_le, Some}
use Rattle.std.proofs.lemmas.Option.{slice_get-get_or, slice_get_past}
use Rattle.std.proofs.lemmas.List.Folds.{find_at}
use Rattle.fab_base.proofs.SamenessLemmas.{unwrap_or-position}
use Rattle.sorted_lists.proofs.ranked.rank_next.Goals as goal

pub returns-then-place-items : goal.returns-then-place-items
returns-then-place-items g c =
    let xs = c.args.items.now in
    let rank = g.T.HasRank.rank_of in
    let place = c.rank_from-place.ensures.place ∙ unwrap_or-position (λ x. nat_le c.args.from (rank x)) xs in
    ap (λ x. Some x) c.index-items-place.is
    ∙ sym (find_at (λ x. nat_le c.args.from (rank x)) xs ∙ ap (λ (n : ℕ). slice_get xs n) (sym place) ∙ slice_get-get_or xs c.rank_from-place.result c.index-items-place.result c.if-place-items.true)

pub returns-else-place-items : goal.returns-else-place-items
returns-else-place-items g c =
    let xs = c.args.items.now in
    let rank = g.T.HasRank.rank_of in
    let place = c.rank_from-place.ensures.place ∙ unwrap_or-position (λ x. nat_le c.args.from (rank x)) xs in
    sym (find_at (λ x. nat_le c.args.from (rank x)) xs ∙ ap (λ (n : ℕ). slice_get xs n) (sym place) ∙ slice_get_past xs c.rank_from-place.result (omega (arith, c.if-place-items.false)))
