use Rattle.std.proofs.Common.{inl}
use Rattle.fabric_tool.specs.Command.{Enode, enode_of}
use Rattle.fabric_tool.proofs.EnodeLemmas.{ran_as}
use Rattle.fabric_tool.proofs.TouchLemmas.{own_pair}
use Rattle.fabric_tool.proofs.node.enode.Goals as goal

pub returns : goal.returns
returns g c =
    let seen = g.D.Depot.seen in
    record {
      holds = ran_as _ _ (enode_of c.args.start c.args.own c.args.words.now) (seen c.args.depot.now) (seen c.run_node.new.depot) c.run_node.result c.stood.result c.word_at-from.ensures c.word_at-to.ensures c.run_node.ensures.plays c.run_node.ensures.uses c.stood.ensures;
      touches = own_pair (Enode (enode_of c.args.start c.args.own c.args.words.now)) _ _ _ _ (inl c.word_at-from.ensures) (inl c.word_at-to.ensures) c.run_node.ensures.uses.touches;
    }
