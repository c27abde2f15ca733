pub mod Table
pub mod Els
