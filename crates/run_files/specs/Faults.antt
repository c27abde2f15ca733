-- How a run ends early.
use Rattle.fab_base.specs.Ending as ending
use Rattle.fab_base.specs.Ending.{End}
use Rattle.pcap_file.specs.declared.fault.GatherFault.{GatherFault}
use Rattle.pcap_file.specs.declared.fault.GatherFault.TheVariants as gather
use Rattle.run_files.specs.declared.fault.RunFault.{RunFault}
use Rattle.run_files.specs.declared.fault.RunFault.TheVariants as fault

-- what a fault of reading captures ends a run with
abbrev pub fault_from : GatherFault → RunFault
fault_from (gather.Capture port at why) = fault.Capture port at why
fault_from (gather.Limit kind) = fault.Limit kind
fault_from gather.Read = fault.Read
fault_from gather.Memory = fault.Memory

-- what it rests on
abbrev pub run_end : RunFault → End
run_end (fault.Capture port at w) = ending.Said
run_end (fault.Limit kind) = ending.Said
run_end fault.Read = ending.Read
run_end fault.Write = ending.Write
run_end fault.Memory = ending.Memory

-- a fault of writing, or want of memory
abbrev pub IsUnwritten : End → Type 0
IsUnwritten ending.Write = Unit {0}
IsUnwritten ending.Memory = Unit {0}
IsUnwritten end = ⊥
