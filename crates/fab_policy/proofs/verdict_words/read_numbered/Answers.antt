use Rattle.std.proofs.Common.{◌≡◌, ◌≤◌, decimal, arith}
use Rattle.fab_policy.proofs.VerdictLemmas.{numbered_none}
use Rattle.fab_policy.proofs.verdict_words.read_numbered.Goals as goal

pub returns-in-None-read_dropped : goal.returns-in-None-read_dropped
returns-in-None-read_dropped c =
    let number : (c.in-Some.number ≤ 4294967295) × (c.args.number.now ≡ decimal c.in-Some.number) = c.in-Some.ensures in
    numbered_none c.args.rule.now c.args.number.now c.in-Some.number (omega (arith, number.0), number.1) c.in-None-read_dropped.ensures
