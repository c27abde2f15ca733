use Rattle.std.proofs.Common.{ℕ, ◌∙◌, ap, Some, slice_get}
use Rattle.std.specs.Option.{option_map}
use Rattle.fip_codec.specs.Fip.{HEADER}
use Rattle.fip_codec.specs.Table.{parts}
use Rattle.fip_codec.specs.Walk.{of_type}
use Rattle.fip_codec.proofs.Items.{item_at, no_item_at}
use Rattle.fip_codec.proofs.lists.ItemList.at.Goals as goal

pub returns-in-Some : goal.returns-in-Some
returns-in-Some g c =
    let list = c.self.inside.list.now in
    let found = c.in-Some.ensures.found ∙ ap (λ (k : ℕ). option_map parts (slice_get (of_type k HEADER list) c.args.index)) c.kind.ensures in
    ap Some c.read.ensures
    ∙ item_at g.T.Item.kind g.T.Item.value list c.args.index c.in-Some.found.kind c.in-Some.found.content.now found
    ∙ ap (λ m. slice_get m c.args.index) c.self.view_is

pub returns-in-None : goal.returns-in-None
returns-in-None g c =
    let list = c.self.inside.list.now in
    let none = c.in-None.ensures.found ∙ ap (λ (k : ℕ). option_map parts (slice_get (of_type k HEADER list) c.args.index)) c.kind.ensures in
    no_item_at g.T.Item.kind g.T.Item.value list c.args.index none ∙ ap (λ m. slice_get m c.args.index) c.self.view_is
