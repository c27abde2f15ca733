pub mod Logins
pub mod Sound
