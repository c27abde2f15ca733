use Rattle.std.proofs.Common.{ap, ◌∙◌}
use Rattle.fab_base.specs.Layout.{spelled}
use Rattle.fip_codec.proofs.Appends.{fabric_parts}
use Rattle.fip_codec.proofs.writing.put_fabric.Goals as goal

pub returns-clause-bytes : goal.returns-clause-bytes
returns-clause-bytes c =
    fabric_parts c.args.list.now.items _ _ _ c.to_be_bytes.result c.to_be_bytes-2.result c.args.map c.args.fabric
    c.put.ensures.bytes c.to_be_bytes.ensures c.put-2.ensures.bytes (c.to_be_bytes-2.ensures ∙ ap (spelled 8) c.fabric.view_is) c.put-3.ensures.bytes
