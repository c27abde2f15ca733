use Rattle.std.proofs.Common.{◌∙◌, ap, Some}
use Rattle.fab_config.proofs.HexLemmas.{name_is}
use Rattle.fab_config.proofs.hexes.read_name.Goals as goal

pub returns-then-read_octets : goal.returns-then-read_octets
returns-then-read_octets c = ap (λ n. Some n) c.from_be_bytes.ensures ∙ name_is c.args.word.now c.read_octets.new.bytes c.read_octets.auto.bytes c.if-read_octets.ensures
