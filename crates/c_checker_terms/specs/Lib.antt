pub mod Checked
pub mod Sources
pub mod Ways
