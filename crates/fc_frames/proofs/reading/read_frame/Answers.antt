use Rattle.std.proofs.Common.{arith}
use Rattle.std.proofs.lemmas.List.{take_rest}
use Rattle.fc_frames.proofs.FrameLemmas.{decoded-is, layout}
use Rattle.fc_frames.proofs.reading.read_frame.Goals as goal

pub returns-clause-layout : goal.returns-clause-layout
returns-clause-layout c =
    layout c.args.bytes.now (λ i. let f = c.type_inv.bytes i in omega arith) (omega arith) _ _ (omega arith) (omega arith) c.header_at.ensures (take_rest c.args.bytes.now 24)

pub returns-clause-exact : goal.returns-clause-exact
returns-clause-exact c = decoded-is _ c.args.bytes.now (returns-clause-layout c)
