use Rattle.fab_policy.specs.declared.verdict.Verdict.TheVariants.{Granted}
use Rattle.fab_sending.specs.MessageLaws.{messages}
use Rattle.fab_sending.proofs.Joining.{at_clock}
use Rattle.fab_sending.proofs.frame.grant_sends.Goals as goal

pub returns : goal.returns
returns c = λ entry caught grant.
    let b = c.args.before.now in
    let T = b.roster.now.tables in
    let v = Granted c.args.grant.now.address in
    c.in_ok-sends.ensures c.args.port entry caught v (record {
      made = at_clock _ _ (messages b.config.now T c.args.port entry caught v) c.in_ok-frames.frames c.clock.ensures.now
          (c.in_ok-frames.ensures.made b.config.now T entry caught grant.accept);
      sendable = λ events at. c.in_ok-frames.ensures.sendable events;
      changes_are = c.in_ok-changes.ensures c.args.port caught grant;
    })
