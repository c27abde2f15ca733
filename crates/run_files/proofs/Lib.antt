pub mod FaultLemmas
pub mod NameLemmas
pub mod PageLemmas
pub mod OutputLemmas
pub mod OpenLemmas
