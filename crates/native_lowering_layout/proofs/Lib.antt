pub mod Joined
pub mod Blocks
pub mod Free
pub mod FreeBlocks
pub mod Labels
