pub mod EdgeLemmas
pub mod LineLemmas
