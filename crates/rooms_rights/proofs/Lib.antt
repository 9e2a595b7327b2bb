pub mod Stepping
pub mod Sweeping
pub mod Openings
pub use Rattle.rooms_steps.proofs.HearLemmas
pub use Rattle.rooms_steps.proofs.Stays
