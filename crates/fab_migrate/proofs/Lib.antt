pub mod OldLineLemmas
pub mod OldReadingLemmas
mod OldLemmas
mod OldJournalLemmas
mod MigrateLemmas
