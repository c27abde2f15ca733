use Rattle.std.proofs.Common.{◌∙◌, sym}
use Rattle.std.proofs.lemmas.Bool.{false≢true}
use Rattle.fip_codec.proofs.Sound.{first_absent}
use Rattle.fip_codec.proofs.reading.frame_of.Goals as goal

pub unreachable-requires : goal.unreachable-requires
unreachable-requires c = false≢true (sym (first_absent c.args.list.now 7 c.requires.sound c.in-None.ensures.found) ∙ c.requires.there)
