use Rattle.fab_pieces.proofs.SeamLemmas.{same_ports}
use Rattle.fab_state.proofs.lines.login_of.Goals as goal

pub returns : goal.returns
returns c p h e =
    same_ports (c.address_in.ensures p h e) (c.name_in.ensures p h e) (c.node_in.ensures p h e) (c.enode_in.ensures p h e) (c.size_in.ensures p h e) (c.node_heard_in.ensures p h e) (c.port_heard_in.ensures p h e)
    (c.watch_in.ensures p h e) (c.in_ok-values.ensures p h e)
