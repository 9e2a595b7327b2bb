pub mod Beginnings
pub mod Composition
pub mod Forms
pub mod Parts
pub mod Lists
pub mod Loops
pub mod Simulation
