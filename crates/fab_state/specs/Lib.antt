pub mod Rows
pub mod Words
pub mod Readable
pub mod Reading
pub mod Fit
pub mod Fitting
pub mod Under
