pub mod Ask
pub mod Table
pub mod Ct
pub mod CanWrite
pub mod Answer
pub mod Server
