pub mod Trees
pub mod Blocks
