pub mod Heard
pub mod View
pub mod Rows
