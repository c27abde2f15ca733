-- How the reading of captures ends early.
use Rattle.std.specs.Prelude.{ℕ}
use Rattle.fab_base.specs.Ending as ending
use Rattle.fab_base.specs.Ending.{End, IsSaid}
use Rattle.pcap_file.specs.declared.CapError.{CapError}
use Rattle.pcap_file.specs.declared.CapError.TheVariants as errors
use Rattle.pcap_file.specs.declared.CapFault.{CapFault}
use Rattle.pcap_file.specs.declared.CapFault.TheVariants as heads
use Rattle.pcap_file.specs.declared.CapOpen.{CapOpen}
use Rattle.pcap_file.specs.declared.CapOpen.TheVariants as opens
use Rattle.pcap_file.specs.declared.fault.CapWhy.{CapWhy}
use Rattle.pcap_file.specs.declared.fault.CapWhy.TheVariants as why
use Rattle.pcap_file.specs.declared.fault.LimitKind.TheVariants as limit
use Rattle.pcap_file.specs.declared.fault.GatherFault.{GatherFault}
use Rattle.pcap_file.specs.declared.fault.GatherFault.TheVariants as fault

-- the word for the fault of a head
abbrev pub why_of : CapFault → CapWhy
why_of heads.Short = why.Short
why_of heads.BadMagic = why.Magic
why_of heads.BadVersion = why.Version
why_of heads.NotEthernet = why.Link

-- what an error of opening a port's capture ends the reading with
abbrev pub open_fault_by : CapOpen → ℕ → GatherFault
open_fault_by (opens.Head head) port = fault.Capture port 0 (why_of head)
open_fault_by (opens.Read failed) port = fault.Read
open_fault_by opens.Bytes port = fault.Limit limit.Bytes

-- what an error of the reader of a port ends the reading with
abbrev pub fault_by : CapError → ℕ → GatherFault
fault_by (errors.Cut at) port = fault.Capture port at why.Cut
fault_by (errors.TooLong at len) port = fault.Capture port at why.Long
fault_by errors.Bytes port = fault.Limit limit.Bytes
fault_by errors.Frames port = fault.Limit limit.Frames
fault_by (errors.Read failed) port = fault.Read
fault_by errors.Memory port = fault.Memory

-- what each of them rests on
abbrev pub open_end : CapOpen → End
open_end (opens.Head head) = ending.Said
open_end (opens.Read failed) = ending.Read
open_end opens.Bytes = ending.Said

abbrev pub cap_end : CapError → End
cap_end (errors.Cut at) = ending.Said
cap_end (errors.TooLong at len) = ending.Said
cap_end errors.Bytes = ending.Said
cap_end errors.Frames = ending.Said
cap_end (errors.Read failed) = ending.Read
cap_end errors.Memory = ending.Memory

abbrev pub gather_end : GatherFault → End
gather_end (fault.Capture port at w) = ending.Said
gather_end (fault.Limit kind) = ending.Said
gather_end fault.Read = ending.Read
gather_end fault.Memory = ending.Memory

-- an ending that stands in the captures, and not in the store or in the memory
abbrev pub IsStopped : GatherFault → Type 0
IsStopped fault = IsSaid (gather_end fault)
