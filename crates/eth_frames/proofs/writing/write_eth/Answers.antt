use Rattle.std.proofs.Common.{refl, ap, length, ◌+◌, ◌++◌, ◌∙◌}
use Rattle.eth_frames.specs.Ethernet.{view}
use Rattle.eth_frames.proofs.EthernetLemmas.{written_put}
use Rattle.eth_frames.proofs.writing.write_eth.Goals as goal

pub returns-clause-ok : goal.returns-clause-ok
returns-clause-ok c = written_put (view c.args.frame.now) c.args.out.now.items c.append_reserved.new.out.items c.append_reserved-2.new.out.items c.append_reserved-3.new.out.items c.head_of-head.result.items _ _ c.saturating_sub-pad.result
    c.head_of-head.ensures.bytes (ap (λ n. n + length c.args.frame.now.body.now) c.len.ensures.value) c.saturating_sub-pad.ensures refl
    (c.append_reserved.ensures.bytes ∙ ap (λ l. l ++ c.deref.result.now) c.in_ok-reserve.ensures.items ∙ ap (λ l. c.args.out.now.items ++ l) c.deref.ensures.0) c.append_reserved-2.ensures.bytes c.append_reserved-3.ensures.bytes
