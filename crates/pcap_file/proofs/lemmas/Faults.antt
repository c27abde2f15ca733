-- What a reader's error ends the reading of captures with.
use Rattle.std.proofs.Common.{◌≡◌, ◌≢◌, ℕ, refl}
use Rattle.fab_base.specs.Seen.{Seen, SameReadFaults}
use Rattle.fab_base.specs.Ending.{SparesReads}
use Rattle.fab_base.specs.declared.values.Failed.{Failed}
use Rattle.pcap_file.specs.declared.CapError.{CapError}
use Rattle.pcap_file.specs.declared.CapError.TheVariants as errors
use Rattle.pcap_file.specs.declared.fault.GatherFault.TheVariants as fault
use Rattle.pcap_file.specs.Faults.{fault_by, cap_end}

-- a read fault is the depot's
pub read_of : (port : ℕ) (q : CapError) → fault_by q port ≡ fault.Read → (f : Failed) × (q ≡ errors.Read f)
read_of port (errors.Cut at) same = absurd (cc)
read_of port (errors.TooLong at len) same = absurd (cc)
read_of port errors.Bytes same = absurd (cc)
read_of port errors.Frames same = absurd (cc)
read_of port (errors.Read f) same = (f, refl)
read_of port errors.Memory same = absurd (cc)

-- an error that is no read fault counts none
pub spared : (port : ℕ) (q : CapError) (old new : Seen) → SparesReads (cap_end q) old new → fault_by q port ≢ fault.Read → SameReadFaults old new
spared port (errors.Cut at) old new spares other = spares
spared port (errors.TooLong at len) old new spares other = spares
spared port errors.Bytes old new spares other = spares
spared port errors.Frames old new spares other = spares
spared port (errors.Read f) old new spares other = absurd (other refl)
spared port errors.Memory old new spares other = spares
