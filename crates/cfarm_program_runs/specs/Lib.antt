pub mod Explained
pub mod Objects
pub mod Outcomes
pub mod Refusals
pub mod Saying
