mod JoinLemmas
mod RunLemmas
mod SessionLemmas
mod CheckedLemmas
mod NamedLemmas
mod PastLemmas
mod VoiceLemmas
mod SoundLemmas
mod TimelyLemmas
mod PortLemmas
mod ServesLemmas
pub mod SeamLemmas
mod RestoredLemmas
