pub mod Answered
pub mod Built
pub mod Met
pub mod Performed
pub mod Runs
