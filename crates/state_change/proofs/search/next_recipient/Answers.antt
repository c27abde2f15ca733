use Rattle.std.proofs.Common.{ℕ, List, ◌∙◌, ap, find, option_map, refl}
use Rattle.std.proofs.lemmas.List.{take_rest}
use Rattle.sorted_lists.specs.Orders.{seen}
use Rattle.sorted_lists.proofs.PlacingLemmas.{find-behind}
use Rattle.state_change.specs.Watchers.{address_of, is_recipient}
use Rattle.state_change.proofs.search.next_recipient.Goals as goal

pub returns : goal.returns
returns c =
    let q = is_recipient c.args.zones.now c.args.at c.args.affected in
    c.first_recipient.ensures
    ∙ ap (λ (l : List ℕ). option_map address_of (find q (seen c.args.watchers.now l))) (take_rest c.args.places.now c.order_from.result)
    ∙ ap (option_map address_of) (find-behind address_of c.args.watchers.now c.args.places.now c.args.places.now c.args.from c.args.from c.order_from.result c.requires.there refl refl c.order_from.ensures.place q c.requires.ascending)
