pub mod Arriving
pub mod Files
pub mod Handling
pub mod Live
pub mod From
pub mod Ready
