pub mod Walking
pub mod Straight
pub mod Seen
pub mod Growing
