use Rattle.std.proofs.Common.{◌∙◌, ◌≡◌, ℕ, subst, arith}
use Rattle.ct_messages.specs.Answer.{written}
use Rattle.fc_frames.specs.Pieces.{Cuts}
use Rattle.fab_sending.proofs.FrameMade.{answer_made, answer_sendable, written_first}
use Rattle.fab_sending.proofs.answers.frames_of_answer.Goals as goal

pub returns-clause-made : goal.returns-clause-made
returns-clause-made c =
    let is : c.as_slice.result.now ≡ written c.args.tell.now =
    c.as_slice.ensures.value ∙ written_first c.new-bytes.result.items _ (written c.args.tell.now) c.new-bytes.ensures.items c.in_ok-write_tell.ensures.ok in
    let cuts : Cuts c.len.result c.args.size 0 c.in_ok-ranges.ranges.items = subst (λ (n : ℕ). Cuts c.len.result n 0 c.in_ok-ranges.ranges.items) c.from.ensures c.in_ok-ranges.ensures.cuts in
    answer_made c.ranges_have_the_pieces.ensures c.args.port c.args.moment c.args.size c.len.result c.args.to (written c.args.tell.now) c.as_slice.result.now c.in_ok-ranges.ranges.items
    c.as_slice-2.result.now c.in_ok-outs.outs is (omega arith) cuts c.as_slice-2.ensures.value c.in_ok-outs.ensures

pub returns-clause-sendable : goal.returns-clause-sendable
returns-clause-sendable c = λ events.
    let cuts : Cuts c.len.result c.args.size 0 c.in_ok-ranges.ranges.items = subst (λ (n : ℕ). Cuts c.len.result n 0 c.in_ok-ranges.ranges.items) c.from.ensures c.in_ok-ranges.ensures.cuts in
    answer_sendable events c.args.port c.args.moment c.args.size c.len.result c.args.to c.as_slice.result.now c.in_ok-ranges.ranges.items c.as_slice-2.result.now c.in_ok-outs.outs
    (omega arith) cuts c.as_slice-2.ensures.value c.in_ok-outs.ensures (omega (arith, c.in_ok-write_tell.ensures.words, c.in_ok-write_tell.ensures.size, c.new-bytes.ensures.len)) c.requires.size.words c.requires.size.most
