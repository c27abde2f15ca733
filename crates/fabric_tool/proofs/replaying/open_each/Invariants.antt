use Rattle.fabric_tool.proofs.JournalLemmas.{ReadSoFar, out_names}
use Rattle.fabric_tool.proofs.replaying.open_each.Given as goal

abbrev pub invariant-loop-port : goal.invariant-loop-port
invariant-loop-port g l =
    let seen = g.D.Depot.seen in
    ReadSoFar (out_names l.words l.port) (seen l.fn.depot) (seen l.depot) l.outs.items
