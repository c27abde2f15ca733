use Rattle.fab_judge.proofs.CommandLemmas.{no_frame}
use Rattle.fab_judge.proofs.logins.judge_login.Goals as goal

pub returns-in_default-clause-judged : goal.returns-in_default-clause-judged
returns-in_default-clause-judged c = rw (c.dropped.ensures, no_frame c.args.asked.now.kind c.args.asked.now.fp c.args.frame.now c.args.asked.now.mac c.in_default.field-0 c.in_default.ensures.exact)
