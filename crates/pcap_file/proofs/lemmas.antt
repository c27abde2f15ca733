-- Lemmas that proofs of other crates may cite.
pub mod Numbers
pub mod Faults
pub mod Buffers
pub mod Steps
pub mod Chains
pub mod Loop
pub mod Written
