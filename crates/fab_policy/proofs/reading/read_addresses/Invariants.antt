use Rattle.std.proofs.Common.{length}
use Rattle.fab_policy.proofs.ReadingLemmas.{AreRead}
use Rattle.fab_policy.proofs.reading.read_addresses.Given as goal

abbrev pub invariant-words : goal.invariant-words
invariant-words l = AreRead l.text l.ended l.rest l.least

abbrev pub decreases-words : goal.decreases-words
decreases-words l = length l.rest
