use Rattle.std.proofs.Common.{◌≢◌, ◌∙◌, arith}
use Rattle.pcap_file.specs.Capture.{at_place}
use Rattle.pcapng_file.proofs.OptionLemmas.{walk_none, walk_step}
use Rattle.pcapng_file.proofs.options.read_options.Goals as goal

pub loop-at-init : goal.loop-at-init
loop-at-init c = walk_none c.args.big c.args.area.now

pub loop-at-preserved : goal.loop-at-preserved
loop-at-preserved c =
    let some : at_place c.args.big c.args.area.now c.loop-at.at 2 ≢ 0 = λ e. c.if-code-eq0.false (c.half_at-code.ensures ∙ e) in
    walk_step c.args.big c.args.area.now c.loop-at.told c.loop-at.at c.loop-at.invariant (omega arith) (omega arith) some c.half_at-code.result c.half_at-len.result _ c.padded-in-loop-at.result c.with-told.result c.half_at-code.ensures c.half_at-len.ensures (omega arith) c.padded-in-loop-at.ensures.value c.with-told.ensures (omega arith)
