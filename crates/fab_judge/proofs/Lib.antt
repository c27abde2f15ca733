pub mod RowLemmas
pub mod AskLemmas
pub mod LoginLemmas
pub mod JudgedLemmas
pub mod CommandLemmas
