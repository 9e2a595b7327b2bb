pub mod Stretches
pub mod InRange
pub mod Tables
pub mod Searches
pub mod Risings
pub use Rattle.machine.proofs.Equal
