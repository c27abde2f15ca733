use Rattle.std.proofs.Common.{◌∙◌, ap}
use Rattle.fab_base.specs.Layout.{spelled}
use Rattle.fab_config.proofs.writing.name_bytes.Goals as goal

pub returns : goal.returns
returns c = c.to_be_bytes.ensures ∙ ap (spelled 8) c.name.view_is
