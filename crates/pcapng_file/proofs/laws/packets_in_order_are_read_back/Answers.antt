use Rattle.pcapng_file.proofs.BackLemmas.{ordered_back}
use Rattle.pcapng_file.proofs.laws.packets_in_order_are_read_back.Goals as goal

pub returns : goal.returns
returns c = ordered_back
