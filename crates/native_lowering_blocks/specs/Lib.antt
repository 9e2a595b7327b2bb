pub mod Labels
pub mod Noted
pub mod Blocks
