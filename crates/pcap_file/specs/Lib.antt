pub mod Capture
pub mod Reading
pub mod Records
pub mod Faults
pub mod Captures
