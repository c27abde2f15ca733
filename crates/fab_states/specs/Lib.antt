pub mod States
pub mod Runs
pub mod Written
pub mod Went
pub mod Laws
