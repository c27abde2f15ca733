pub mod Joined
pub mod Rules
pub mod Index
