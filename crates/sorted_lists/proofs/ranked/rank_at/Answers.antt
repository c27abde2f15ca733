use Rattle.std.proofs.Common.{◌≡◌, ◌≢◌, ℕ, ◌∙◌, ◌==◌, true, false, ap, sym, arith}
use Rattle.std.proofs.lemmas.Bool.Decides.{nat_tests}
use Rattle.fab_base.proofs.SamenessLemmas.{unwrap_or-position}
use Rattle.sorted_lists.proofs.SearchLemmas.{position-there, position-past, position-other}
use Rattle.sorted_lists.proofs.ranked.rank_at.Goals as goal

differs : (m n : ℕ) → m ≢ n → (m == n) ≡ false
differs m n ne = grind (arith, nat_tests)

same : (m n : ℕ) → m ≡ n → (m == n) ≡ true
same m n e = grind (arith, nat_tests)

pub returns-then-place-items : goal.returns-then-place-items
returns-then-place-items g c = position-past g.T.HasRank.rank_of c.args.rank 0 c.rank_from-place.result c.args.items.now c.requires (c.rank_from-place.ensures.place ∙ unwrap_or-position _ c.args.items.now) c.if-place-items.true

pub returns-then-rank : goal.returns-then-rank
returns-then-rank g c =
    let here : g.T.HasRank.rank_of c.index-items-place.result ≡ c.rank.result = sym c.rank.ensures in
    position-other g.T.HasRank.rank_of c.args.rank 0 c.rank_from-place.result c.args.items.now c.index-items-place.result c.requires (c.rank_from-place.ensures.place ∙ unwrap_or-position _ c.args.items.now) (omega (arith, c.if-place-items.false, c.rank_from-place.ensures.within))
    (ap (λ x. g.T.HasRank.rank_of x == c.args.rank) (sym c.index-items-place.is) ∙ ap (λ (n : ℕ). n == c.args.rank) here ∙ differs _ _ c.if-rank.true)

pub returns : goal.returns
returns g c =
    let here : g.T.HasRank.rank_of c.index-items-place.result ≡ c.rank.result = sym c.rank.ensures in
    position-there g.T.HasRank.rank_of c.args.rank 0 c.rank_from-place.result c.args.items.now c.index-items-place.result c.requires (c.rank_from-place.ensures.place ∙ unwrap_or-position _ c.args.items.now) (omega (arith, c.if-place-items.false, c.rank_from-place.ensures.within))
    (ap (λ x. g.T.HasRank.rank_of x == c.args.rank) (sym c.index-items-place.is) ∙ ap (λ (n : ℕ). n == c.args.rank) here ∙ same _ _ c.if-rank.false)
