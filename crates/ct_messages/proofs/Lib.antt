pub mod Appends
pub mod Entries
pub mod Rows
pub mod Decoding
pub mod Spelled
pub mod Words
pub mod Queries
pub mod Limits
mod StandardFacts
