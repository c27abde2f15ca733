-- The laws are lemmas.
use Rattle.fab_pieces.proofs.PortLemmas.{pieces_keep_ports, journals_have_ports}
use Rattle.fab_pieces.proofs.laws.logins_have_ports.Goals as goal

pub returns : goal.returns
returns c = record { pieces = pieces_keep_ports; journals = journals_have_ports }
