use Rattle.std.proofs.Common.{◌∙◌, ◌∷◌, ap, sym}
use Rattle.fab_turn.specs.Lock.{own}
use Rattle.fab_turn.specs.Views.{has_port, has_kept}
use Rattle.fabric_tests.proofs.shared.events_of.Goals as goal

-- each port that was given out was kept, the first and then the second
pub close-fabric-requires-clause-joined : goal.close-fabric-requires-clause-joined
close-fabric-requires-clause-joined c port has =
    let given_both = c.join-2.ensures.given ∙ c.join.ensures.given ∙ c.requires.root.2 in
    let kept_one = c.join.ensures.kept 1 c.requires.first.2 ∙ ap (λ ks. (1, own c.args.first) ∷ ks) c.requires.root.3 in
    let kept_both = ap (has_kept port) (c.join-2.ensures.kept 2 c.requires.second.2 ∙ ap (λ ks. (2, own c.args.second) ∷ ks) kept_one) in
    kept_both ∙ sym (ap (has_port port) given_both) ∙ has
