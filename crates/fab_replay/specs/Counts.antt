-- What a check counts of the faults of a store.
use Rattle.fab_base.specs.Ending.{End}
use Rattle.fab_base.specs.Ending as ending
use Rattle.fab_replay.specs.declared.fault.CheckFault.{CheckFault}
use Rattle.fab_replay.specs.declared.fault.CheckFault.TheVariants as fault

-- what the answer of a check rests on that ends in a fault
abbrev pub check_end : CheckFault → End
check_end fault.Read = ending.Read
check_end fault.Memory = ending.Memory
check_end _ = ending.Said
