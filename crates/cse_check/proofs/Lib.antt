pub mod Among
pub mod Kept
