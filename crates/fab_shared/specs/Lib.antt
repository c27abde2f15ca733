pub mod Frames
pub mod Shared
pub mod Handled
pub mod Sizes
pub mod Workers
