pub mod Faults
pub mod Names
pub mod Pages
pub mod Outputs
pub mod Opening
