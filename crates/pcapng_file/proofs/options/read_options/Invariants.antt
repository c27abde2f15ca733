use Rattle.std.proofs.Common.{◌-◌, length}
use Rattle.pcapng_file.proofs.OptionLemmas.{Walk}
use Rattle.pcapng_file.proofs.options.read_options.Given as goal

abbrev pub invariant-loop-at : goal.invariant-loop-at
invariant-loop-at l = Walk l.big l.area l.told l.at

abbrev pub decreases-loop-at : goal.decreases-loop-at
decreases-loop-at l = length l.area - l.at
