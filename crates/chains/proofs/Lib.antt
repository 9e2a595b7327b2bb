mod Beside
mod Broken
pub mod GoingOn
