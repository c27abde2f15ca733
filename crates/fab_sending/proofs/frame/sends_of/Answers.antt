use Rattle.std.proofs.Common.{◌+◌, ◌%◌, ◌∙◌, ap}
use Rattle.fab_sending.proofs.Joining.{sends_made}
use Rattle.fab_sending.proofs.frame.sends_of.Goals as goal

pub returns : goal.returns
returns c = λ port entry caught v parts.
    sends_made c.frames_send.ensures c.frames_tell.ensures c.args.before.now port entry caught v c.args.replies c.args.changes _ c.clock.ensures.pool c.in_ok-append.ensures.ok
    (c.rscns_after-rscns.ensures.count ∙ ap (λ n. (c.args.before.now.rscns + n) % 65535) c.len.ensures)
    c.rscns_after-rscns.ensures.range parts
