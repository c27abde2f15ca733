pub mod Box
pub mod Sent
