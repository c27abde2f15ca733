use Rattle.std.proofs.Common.{ℕ, ◌-◌, sym, ◌∙◌, ap}
use Rattle.pcap_file.specs.Capture.{at_place}
use Rattle.pcapng_file.proofs.PacketLemmas.{body_asks, body_err}
use Rattle.pcapng_file.proofs.packet.read_block.Goals as goal

pub returns-in-Err : goal.returns-in-Err
returns-in-Err c = record {
  tells = body_err c.args.at c.args.head c.args.faces.now c.args.block.now (ap (λ (n : ℕ). at_place c.args.head.big c.args.block.now (n - 4) 4) (sym c.requires.size) ∙ sym c.number_at.ensures ∙ c.if-number_at-size.false) c.in-Packet.is c.in-Err.error c.in-Err.ensures.tells;
  own = c.in-Err.ensures.own;
  asks = body_asks c.args.at c.args.head c.args.faces.now c.args.block.now (ap (λ (n : ℕ). at_place c.args.head.big c.args.block.now (n - 4) 4) (sym c.requires.size) ∙ sym c.number_at.ensures ∙ c.if-number_at-size.false) c.in-Packet.is c.in-Err.error c.in-Err.ensures.asks;
  kept = tt;
}
