pub mod Register
pub mod Numbers
pub mod Words
pub mod Sparse
pub mod Room
pub mod Whole
