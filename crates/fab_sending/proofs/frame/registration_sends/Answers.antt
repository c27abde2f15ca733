use Rattle.std.proofs.Common.{◌∙◌, ap}
use Rattle.ct_messages.specs.declared.CtTell.TheVariants.{Done}
use Rattle.fab_policy.specs.Replies.{Asker}
use Rattle.fab_policy.specs.declared.verdict.Verdict.TheVariants.{Registered}
use Rattle.fab_sending.proofs.Joining.{answer_at, registered_told}
use Rattle.fab_sending.proofs.frame.registration_sends.Goals as goal

pub returns : goal.returns
returns c = λ entry caught to asks.
    let b = c.args.before.now in
    let T = b.roster.now.tables in
    c.in_ok-sends.ensures c.args.port entry caught Registered (record {
      made = answer_at _ _ c.args.port 2112 caught Done c.args.to c.in_ok-frames.frames c.clock-moment.ensures.now to c.in_ok-frames.ensures.made;
      sendable = λ events at. c.in_ok-frames.ensures.sendable events;
      changes_are = registered_told b.config.now T b.rscns _ caught _ c.in_ok-changes.changes (ap (λ (x : Asker). x.s_id) (c.to.view_is ∙ to)) asks c.in_ok-changes.ensures;
    })
