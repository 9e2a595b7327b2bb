pub mod Answered
pub mod Outcomes
