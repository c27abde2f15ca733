use Rattle.std.proofs.Common.{◌∙◌, ap}
use Rattle.fab_policy.specs.Replies.{Asker}
use Rattle.fab_policy.specs.State.{now_of}
use Rattle.fab_policy.specs.declared.verdict.Verdict.TheVariants.{Answered}
use Rattle.fab_sending.specs.Messages.{at_moment}
use Rattle.fab_sending.proofs.Joining.{answer_at, answer_fits, answer_frames}
use Rattle.fab_sending.proofs.frame.answer_sends.Goals as goal

pub frames_of_answer-requires-clause-short : goal.frames_of_answer-requires-clause-short
frames_of_answer-requires-clause-short c = answer_fits c.args.before.now.config.now c.args.before.now.roster.now.tables c.args.to.s_id c.args.tell.now c.requires.live c.requires.answer c.requires.few

pub returns : goal.returns
returns c = λ entry caught to told.
    let b = c.args.before.now in
    let T = b.roster.now.tables in
    c.in_ok-sends.ensures c.args.port entry caught Answered (record {
      made = answer_at _ _ c.args.port c.args.size caught c.args.tell.now c.args.to c.in_ok-frames.frames c.now.ensures to c.in_ok-frames.ensures.made
          ∙ ap (at_moment (now_of T)) (answer_frames b.config.now T c.args.port entry c.args.size c.args.to.s_id caught c.args.tell.now (ap (λ (x : Asker). x.s_id) to) c.requires.live told c.requires.asked);
      sendable = λ events at. c.in_ok-frames.ensures.sendable events;
      changes_are = c.empty-changes.ensures;
    })
