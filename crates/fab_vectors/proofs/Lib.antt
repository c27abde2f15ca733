pub mod CaptureLemmas
pub mod FilesLemmas
pub mod FrameLemmas
pub mod MakingLemmas
pub mod NumberedLemmas
pub mod SettingsLemmas
