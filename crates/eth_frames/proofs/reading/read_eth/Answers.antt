use Rattle.std.proofs.Common.{arith}
use Rattle.std.proofs.lemmas.List.{take_rest}
use Rattle.eth_frames.proofs.EthernetLemmas.{decoded-is, layout-plain, layout-tagged}
use Rattle.eth_frames.proofs.reading.read_eth.Goals as goal

pub returns-then-first-clause-layout : goal.returns-then-first-clause-layout
returns-then-first-clause-layout c =
    layout-plain c.args.bytes.now _ _ _ _ (λ i. let f = c.type_inv.bytes i in omega arith) (omega arith)
    c.mac_at-dst.ensures c.mac_at-src.ensures c.u16_at-first.ensures c.if-first.true (take_rest c.args.bytes.now 14)

pub returns-clause-layout : goal.returns-clause-layout
returns-clause-layout c =
    layout-tagged c.args.bytes.now _ _ _ _ _ (λ i. let f = c.type_inv.bytes i in omega arith) (omega arith)
    c.mac_at-dst.ensures c.mac_at-src.ensures (omega (arith, c.u16_at-first.ensures, c.if-first.false)) c.u16_at.ensures c.u16_at-2.ensures (take_rest c.args.bytes.now 18)

pub returns-then-first-clause-exact : goal.returns-then-first-clause-exact
returns-then-first-clause-exact c = decoded-is _ c.args.bytes.now (returns-then-first-clause-layout c)

pub returns-clause-exact : goal.returns-clause-exact
returns-clause-exact c = decoded-is _ c.args.bytes.now (returns-clause-layout c)
