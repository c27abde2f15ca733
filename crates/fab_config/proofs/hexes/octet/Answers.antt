use Rattle.fab_config.proofs.HexLemmas.{octet_ok, octet_err}
use Rattle.fab_config.proofs.hexes.octet.Goals as goal

pub returns-in-Ok : goal.returns-in-Ok
returns-in-Ok c = octet_ok c.args.word.now c.args.at c.requires c.decode_to_slice.result c.decode_to_slice.new.out c.decode_to_slice.ensures.value c.in-Ok.is

pub returns-in-Err : goal.returns-in-Err
returns-in-Err c = octet_err c.args.word.now c.args.at c.requires c.decode_to_slice.result c.decode_to_slice.new.out c.decode_to_slice.ensures.value _ c.in-Err.is
