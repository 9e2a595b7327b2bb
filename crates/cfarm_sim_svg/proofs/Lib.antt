pub mod Ending
pub mod Going
