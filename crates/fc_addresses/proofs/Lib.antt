pub mod PoolLemmas
pub mod LineLemmas
pub mod KeptLemmas
pub mod FindLemmas
