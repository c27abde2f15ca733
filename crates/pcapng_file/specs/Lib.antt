pub mod Block
pub mod File
pub mod Laws
pub mod Classic
pub mod Passing
pub mod Stream
