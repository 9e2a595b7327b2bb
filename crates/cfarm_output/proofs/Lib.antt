pub mod Beginnings
pub mod Pieces
