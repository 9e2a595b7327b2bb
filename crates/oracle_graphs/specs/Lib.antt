pub mod Plans
pub mod Blocks
