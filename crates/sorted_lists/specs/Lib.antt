pub mod Index
pub mod Enodes
pub mod Orders
pub mod Reach
pub mod Entries
pub mod Row
pub mod Tree
