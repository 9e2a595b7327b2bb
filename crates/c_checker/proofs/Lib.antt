pub mod Numbering
pub mod Telling
pub mod Walking
pub mod Whole
