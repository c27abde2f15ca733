pub mod Registry
pub mod Places
pub mod Views
