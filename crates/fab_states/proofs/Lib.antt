pub mod OnLemmas
pub mod WentLemmas
pub mod GrowLemmas
pub mod NothingLemmas
pub mod WrittenLemmas
