pub mod Steps
pub mod FourPasses
