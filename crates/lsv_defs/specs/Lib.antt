pub mod Causes
pub mod Pieces
