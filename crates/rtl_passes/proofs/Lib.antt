pub mod Counts
pub mod Simulation
pub mod Sound
pub mod Verdicts
