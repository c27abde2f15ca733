pub mod Files
pub mod Frames
pub mod Load
pub mod Making
pub mod Names
pub mod Settings
