use Rattle.fab_policy.proofs.GrowLemmas.{text_grows, egress_grows, nothing_is_written}
use Rattle.fab_policy.proofs.growing.entries_add_to_files.Goals as goal

pub returns : goal.returns
returns c = record { text = text_grows; egress = egress_grows; nothing = nothing_is_written }
