-- A stream of two packets between which a login falls silent: the ticks on the way to the second end it.
use Rattle.std.specs.Prelude.{List, [], ◌∷◌}
use Rattle.pcapng_file.specs.declared.NgRecord.{NgRecord}
use Rattle.fab_policy.specs.Legal.{Run}
use Rattle.examples.specs.Given.{flogi_a, vlan_request}
use Rattle.examples.specs.WholeRun as silent
use Rattle.fab_live.specs.Arriving.{arrived, records_of}

-- A's FLOGI at 1000 and its VLAN request at 30000, both on the first interface
abbrev pub packets : List NgRecord
packets = record { moment = 1000; caught = flogi_a; original = 162; face = 0 } ∷ record { moment = 30000; caught = vlan_request; original = 60; face = 0 } ∷ []

-- The journal with the end of the login at 21100 is a run over them.
pub run : Run silent.C (records_of 1 (arrived 0 packets)) silent.J
run = silent.run
