pub mod Pages
pub mod Encoders
pub mod Sizes
