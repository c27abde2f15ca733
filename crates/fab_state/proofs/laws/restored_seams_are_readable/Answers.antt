use Rattle.fab_state.proofs.laws.restored_seams_are_readable.Goals as goal

pub returns : goal.returns
returns c settings n s can ports = record { ranged = can.ranged; ports = ports; nexts = can.ports; places = can.sound.places }
