-- What the faults of runs rest on.
use Rattle.std.proofs.Common.{◌≡◌, refl}
use Rattle.pcap_file.specs.Faults.{gather_end}
use Rattle.pcap_file.specs.declared.fault.GatherFault.{GatherFault}
use Rattle.pcap_file.specs.declared.fault.GatherFault.TheVariants as gather
use Rattle.run_files.specs.Faults.{fault_from, run_end}

pub same_end : (g : GatherFault) → run_end (fault_from g) ≡ gather_end g
same_end (gather.Capture port at why) = refl
same_end (gather.Limit kind) = refl
same_end gather.Read = refl
same_end gather.Memory = refl
