pub mod ChangeLemmas
pub mod JoinLemmas
pub mod SetLemmas
