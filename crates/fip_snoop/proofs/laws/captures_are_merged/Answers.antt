-- The laws are lemmas.
use Rattle.fip_snoop.proofs.MergeLemmas.{arrivals_are_in_order, ports_keep_their_order}
use Rattle.fip_snoop.proofs.laws.captures_are_merged.Goals as goal

pub returns-clause-ordered : goal.returns-clause-ordered
returns-clause-ordered c = arrivals_are_in_order

pub returns-clause-ports : goal.returns-clause-ports
returns-clause-ports c = ports_keep_their_order
