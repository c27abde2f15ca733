use Rattle.std.proofs.Common.{ℕ, ◌∙◌, ap, length}
use Rattle.fip_codec.specs.Fip.{HEADER}
use Rattle.fip_codec.specs.Walk.{of_type}
use Rattle.fip_codec.proofs.Items.{items-len}
use Rattle.fip_codec.proofs.lists.ItemList.len.Goals as goal

pub returns : goal.returns
returns g c =
    let list = c.self.inside.list.now in
    c.count_of.ensures
    ∙ ap (λ (k : ℕ). length (of_type k HEADER list)) c.kind.ensures
    ∙ items-len g.T.Item.kind g.T.Item.value list
    ∙ ap length c.self.view_is
