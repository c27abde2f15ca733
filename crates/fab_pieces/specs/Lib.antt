pub mod Laws
pub mod Session
pub mod Sound
pub mod Seam
pub mod Restored
