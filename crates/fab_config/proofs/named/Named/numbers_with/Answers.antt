use Rattle.std.proofs.Common.{◌≡◌, ℕ, ◌∷◌, ◌++◌, [], length, sum_by, subst, arith}
use Rattle.std.proofs.lemmas.List.Sums.{sum_by-append}
use Rattle.fab_config.proofs.named.Named.numbers_with.Goals as goal

pub returns-clause-sum : goal.returns-clause-sum
returns-clause-sum g c =
    let size : g.row.T.Denot → ℕ = λ x. length (g.T.Listing.numbers x) in
    let one = c.args.item.now ∷ [] in
    let sums = sum_by-append size c.self.inside.list one in
    subst (λ l. c.in-Some.numbers ≡ sum_by size (l ++ one)) c.self.view_is (omega (arith, sums, c.in-Some.ensures, c.self.invariant.sum, c.count.ensures))
