use Rattle.std.proofs.Common.{◌∙◌, ap}
use Rattle.fab_policy.specs.Classes.{of_settled}
use Rattle.fab_policy.specs.State.{now_of}
use Rattle.fab_sending.specs.MessageLaws.{messages}
use Rattle.fab_sending.specs.Messages.{at_moment, changes}
use Rattle.fab_sending.proofs.Joining.{at_clock, settled_tells}
use Rattle.fab_sending.proofs.frame.frame_sends.Goals as goal

pub returns : goal.returns
returns c = λ caught values.
    let b = c.args.before.now in
    let T = b.roster.now.tables in
    let v = of_settled c.args.verdict in
    c.in_ok-sends.ensures c.args.port c.args.entry caught v (record {
      made = at_clock _ _ (messages b.config.now T c.args.port c.args.entry caught v) c.in_ok-frames.frames c.now.ensures (c.in_ok-frames.ensures.made b.config.now T caught values);
      sendable = λ events at. c.in_ok-frames.ensures.sendable events caught values at;
      changes_are = c.empty-changes.ensures ∙ ap (λ ns. at_moment (now_of T) (changes b.rscns ns)) (settled_tells b.config.now T c.args.port caught c.args.verdict);
    })
