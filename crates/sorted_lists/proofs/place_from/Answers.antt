use Rattle.std.proofs.Common.{◌∙◌, sym, rules}
use Rattle.fab_base.proofs.SamenessLemmas.{unwrap_or-position}
use Rattle.sorted_lists.specs.Reach.{place_of}
use Rattle.sorted_lists.proofs.ReachLemmas.{splits}
use Rattle.sorted_lists.proofs.SearchLemmas.{place-within}
use Rattle.sorted_lists.proofs.place_from.Goals as goal

pub returns-clause-place : goal.returns-clause-place
returns-clause-place g c =
    c.reach.ensures.value (place_of g.T.HasAddress.address_of c.args.from c.args.items.now) (splits _ _ _ (place-within g.T.HasAddress.address_of c.args.from c.args.items.now) (λ place b says. search rules))
    ∙ sym (unwrap_or-position _ c.args.items.now)
