use Rattle.std.proofs.Common.{arith, length}
use Rattle.fc_frames.proofs.PieceLemmas.{cuts_within, cuts_few, at_most}
use Rattle.fc_frames.proofs.cutting.pieces.Goals as goal

pub returns-clause-within : goal.returns-clause-within
returns-clause-within c = cuts_within c.args.length c.args.size 0 _ (omega arith) c.in_ok-ranges.ensures.cuts

pub returns-clause-few : goal.returns-clause-few
returns-clause-few c =
    let ranges = c.in_ok-ranges.ranges in
    let total = cuts_few c.args.length c.args.size 0 ranges.items c.in_ok-ranges.ensures.cuts in
    omega (arith, ranges.ok.0, at_most c.args.length c.args.size (length ranges.items) (omega arith) (omega arith) (omega (arith, total)))
