pub mod Old
pub mod Migrating
pub mod OldLaws
pub mod OldWords
