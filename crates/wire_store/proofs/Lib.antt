pub mod HeadLemmas
pub mod WrittenLemmas
pub mod CutLemmas
pub mod PortLemmas
pub mod StoreLemmas
pub mod MemPortsLemmas
