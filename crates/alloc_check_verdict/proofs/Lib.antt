pub mod Readings
pub mod Taken
pub mod Turns
pub mod Known
pub mod Lowest
pub mod Passed
pub use Rattle.alloc_check_proof.proofs.Kept
