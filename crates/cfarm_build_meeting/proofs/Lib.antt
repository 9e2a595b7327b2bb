pub mod Counting
mod Ones
pub mod Learned
pub mod Cuts
pub mod Meets
pub mod Twice
pub use Rattle.cfarm_build_result.proofs.Alike
pub use Rattle.cfarm_build_result.proofs.Going
pub use Rattle.cfarm_build_result.proofs.Kept
pub use Rattle.cfarm_build_result.proofs.Zips
