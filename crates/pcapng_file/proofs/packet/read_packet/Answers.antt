use Rattle.std.proofs.Common.{◌≡◌, ◌-◌, false, sym, ◌∙◌, ap, length, arith}
use Rattle.std.specs.Prelude.{nat_lt, slice_get}
use Rattle.std.proofs.lemmas.Bool.{le-ltb}
use Rattle.pcapng_file.specs.Block.{padded, stored}
use Rattle.pcapng_file.specs.File.{at_fault}
use Rattle.pcapng_file.proofs.PacketLemmas.{packet_asks, packet_tells, packet_none}
use Rattle.pcapng_file.proofs.packet.read_packet.Goals as goal

pub returns-in-Some : goal.returns-in-Some
returns-in-Some c =
    let fits : nat_lt (length c.args.block.now - 32) (padded (stored c.args.big c.args.block.now)) ≡ false = le-ltb _ _ (omega (arith, c.padded.ensures.value, ap padded c.number_at.ensures)) in
    record { tells = packet_tells c.args.big c.args.faces.now c.args.block.now fits c.args.at c.in-Some.face c.read_of.result (ap (slice_get c.args.faces.now) (sym c.number_at-2.ensures) ∙ sym c.interface_at.ensures ∙ c.in-Some.is) c.read_of.ensures.tells; own = c.read_of.ensures.own; asks = packet_asks c.args.big c.args.faces.now c.args.block.now fits c.in-Some.face c.read_of.result (ap (slice_get c.args.faces.now) (sym c.number_at-2.ensures) ∙ sym c.interface_at.ensures ∙ c.in-Some.is) c.read_of.ensures.asks; kept = c.read_of.ensures.kept }

pub returns-in-None : goal.returns-in-None
returns-in-None c =
    let fits : nat_lt (length c.args.block.now - 32) (padded (stored c.args.big c.args.block.now)) ≡ false = le-ltb _ _ (omega (arith, c.padded.ensures.value, ap padded c.number_at.ensures)) in
    record { tells = ap (at_fault c.args.at) (packet_none c.args.big c.args.faces.now c.args.block.now fits (ap (slice_get c.args.faces.now) (sym c.number_at-2.ensures) ∙ sym c.interface_at.ensures ∙ c.in-None.is)); own = tt; asks = tt; kept = tt }
