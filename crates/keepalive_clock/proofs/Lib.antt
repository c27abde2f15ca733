pub mod VoiceLemmas
pub mod HeardLemmas
pub mod KeptLemmas
pub mod DueLemmas
