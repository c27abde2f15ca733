pub mod Edge
pub mod Line
pub mod Same
