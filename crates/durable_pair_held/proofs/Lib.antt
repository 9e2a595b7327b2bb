mod Parts
mod Undone
pub mod Noting
