pub mod Voices
pub mod Clock
pub mod Order
