pub mod LoginLemmas
pub mod KeptLemmas
