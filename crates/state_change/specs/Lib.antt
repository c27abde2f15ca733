pub mod Watchers
pub mod Sound
