use Rattle.fab_config.proofs.HexLemmas.{station_is}
use Rattle.fab_config.proofs.hexes.is_station.Goals as goal

pub returns-then-mac-eq0 : goal.returns-then-mac-eq0
returns-then-mac-eq0 c = station_is c.args.mac.now c.has_bit.result c.requires c.if-mac-eq0.true c.has_bit.ensures
