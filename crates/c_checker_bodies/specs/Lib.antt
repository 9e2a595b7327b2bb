pub mod Loops
pub mod Sources
pub mod Changes
pub mod Holders
pub mod ForSources
