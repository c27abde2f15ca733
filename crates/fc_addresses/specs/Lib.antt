pub mod Pool
pub mod Holders
