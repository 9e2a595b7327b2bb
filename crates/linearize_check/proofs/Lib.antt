pub mod Lowest
pub mod Positions
pub mod Verdicts
