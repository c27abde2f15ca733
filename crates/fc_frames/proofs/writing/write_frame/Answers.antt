use Rattle.std.proofs.Common.{◌++◌, ap, ◌∙◌}
use Rattle.fab_base.proofs.LayoutLemmas.{appended_two}
use Rattle.fc_frames.proofs.writing.write_frame.Goals as goal

pub returns-clause-ok : goal.returns-clause-ok
returns-clause-ok c =
    let old = c.args.out.now.items in
    let head = c.header-head.result in
    let payload = c.args.frame.now.payload.now in
    appended_two old head payload _ _ (c.append_reserved.ensures.bytes ∙ ap (λ l. l ++ head) c.in_ok-reserve.ensures.items) c.append_reserved-2.ensures.bytes
    ∙ ap (λ l. old ++ (l ++ payload)) c.header-head.ensures
