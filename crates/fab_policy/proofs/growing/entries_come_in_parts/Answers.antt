use Rattle.fab_policy.proofs.GrowLemmas.{followed_by_parts, sent_by_parts, ranged_by_parts}
use Rattle.fab_policy.proofs.growing.entries_come_in_parts.Goals as goal

pub returns : goal.returns
returns c = record { followed = followed_by_parts; sent = sent_by_parts; ranged = ranged_by_parts }
