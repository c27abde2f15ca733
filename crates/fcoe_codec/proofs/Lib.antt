pub mod FcoeLemmas
