-- Requests to the name server: a refusal, or another judgement.
use Rattle.std.specs.Prelude.{ℕ, Option, Some, None}
use Rattle.ct_messages.specs.Server.{Refusal}
use Rattle.ct_messages.specs.declared.CtTell.{CtTell}
use Rattle.ct_messages.specs.declared.CtTell.TheVariants.{Reject}
use Rattle.fab_policy.specs.Replies.{Asker}
use Rattle.fab_policy.specs.Verdicts as policy
use Rattle.fab_policy.specs.Verdicts.{Judgement}
use Rattle.fab_policy.specs.declared.classes.Replied.TheVariants as replied
use Rattle.fab_policy.specs.declared.verdict.Verdict.TheVariants.{Refused}
use Rattle.fab_judge.specs.declared.judging.Judged.{Judged}
use Rattle.fab_judge.specs.declared.judging.Judged.TheVariants.{Replied, Answers}

-- the verdict that refuses a request to the name server, or else another judgement
abbrev pub unless_refusal : Option Refusal → Judgement → Judgement
unless_refusal (Some why) else_ = policy.Must (Refused why.0 why.1)
unless_refusal None else_ = else_

-- an answer is a judgement: refused where it rejects, and else answered
abbrev pub told_as : Asker → ℕ → CtTell → Judged
told_as to size (Reject reason explanation) = Replied (replied.Refused reason explanation) to
told_as to size tell = Answers to tell size
