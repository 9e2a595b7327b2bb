pub mod Piles
pub mod Ahead
pub mod Costs
pub mod Steps
