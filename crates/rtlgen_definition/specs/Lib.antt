pub mod Pieces
pub mod Gen
