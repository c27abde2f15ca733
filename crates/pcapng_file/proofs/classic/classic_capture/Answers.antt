use Rattle.std.proofs.Common.{sym}
use Rattle.pcapng_file.proofs.ConvertLemmas.{classic_step}
use Rattle.pcapng_file.proofs.classic.classic_capture.Goals as goal

pub loop-index-preserved : goal.loop-index-preserved
loop-index-preserved c = classic_step c.args.records.now c.loop-index.index c.in-Some.packet.now c.loop-index.out.items c.add_packet.new.out.items (sym c.in-Some.ensures) c.loop-index.invariant c.in_ok-add_packet-in-Some.ensures.ok
