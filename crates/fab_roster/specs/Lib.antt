pub mod Roll
pub mod Agreement
pub mod Changes
pub mod Reaching
pub mod Restoring
