pub mod Frame
pub mod Kind
pub mod Pieces
