pub mod Fip
pub mod Message
pub mod Reading
pub mod Walk
pub mod Table
pub mod CanWrite
pub mod Written
