mod LooksLemmas
mod KeepLemmas
pub mod WindowLemmas
pub mod UsesLemmas
pub mod SlotLemmas
pub mod OrderLemmas
pub mod PortLemmas
pub mod PortsLemmas
pub mod LeavesLemmas
pub mod LookLemmas
pub mod FirstLemmas
pub mod NextLemmas
pub mod ReadLemmas
pub mod StayLemmas
pub mod WalkedLemmas
pub mod GatherLemmas
pub mod ClockLemmas
