pub mod Few
pub mod Made
pub mod Pieces
mod Digests
