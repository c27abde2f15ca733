pub mod Judged
pub mod Origin
pub mod Rows
pub mod Told
