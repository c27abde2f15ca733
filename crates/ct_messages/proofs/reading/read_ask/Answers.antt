use Rattle.std.proofs.Common.{arith}
use Rattle.ct_messages.proofs.Decoding.{IsCt-row, decoded-from_IsCt}
use Rattle.ct_messages.proofs.Limits.{CanWrite-stands, HasByte-stands}
use Rattle.ct_messages.proofs.reading.read_ask.Goals as goal

pub returns-clause-grammar : goal.returns-clause-grammar
returns-clause-grammar c =
    IsCt-row c.args.payload.now c.if-payload-lt-PREAMBLE.false c.if-payload.false c.if-payload-ne-NAME_SERVER.false c.in-Some.command c.u16_at-code.result c.needs.result _
    c.u16_at-code.ensures c.in-Some.ensures c.needs.ensures c.if-payload-needs.false c.asks.ensures

pub returns-clause-exact : goal.returns-clause-exact
returns-clause-exact c = decoded-from_IsCt _ c.args.payload.now (returns-clause-grammar c)

pub returns-clause-writes : goal.returns-clause-writes
returns-clause-writes c = CanWrite-stands _ c.args.payload.now (λ i. let fits = c.type_inv.payload i in omega arith) (returns-clause-grammar c).fields

pub returns-clause-byte : goal.returns-clause-byte
returns-clause-byte c = HasByte-stands _ c.args.payload.now (λ i. let fits = c.type_inv.payload i in omega arith) (returns-clause-grammar c).fields
