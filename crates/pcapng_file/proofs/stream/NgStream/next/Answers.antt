use Rattle.pcapng_file.specs.declared.stream.Gone.TheVariants as gives
use Rattle.pcapng_file.proofs.StreamLemmas.{passing_more, passing_packet, gone_as}
use Rattle.pcapng_file.proofs.stream.NgStream.next.Goals as goal

pub returns-in-Ok-Packet : goal.returns-in-Ok-Packet
returns-in-Ok-Packet g c = record {
  reads = passing_packet c.args.slot c.args.self.now c.loop-record.self c.block.new.self _ _ _ c.requires.input c.loop-record.invariant c.in-Ok-Packet.record (gone_as c.in-Ok-Packet.field-0 (gives.Packet c.in-Ok-Packet.record) c.in-Ok-Packet.field-0-is c.in-Ok-Packet.ensures.gone);
}

pub loop-record-preserved : goal.loop-record-preserved
loop-record-preserved g c = passing_more c.args.slot c.args.self.now c.loop-record.self c.block.new.self _ _ _ c.requires.input c.loop-record.invariant (gone_as c.in-Ok-Other.field-0 gives.Other c.in-Ok-Other.field-0-is c.in-Ok-Other.ensures.gone)
