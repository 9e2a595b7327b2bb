mod Made
mod Carrying
mod Leaving
mod Putting
mod Refusing
mod Returned
pub use Rattle.cfarm_build_turns.proofs.Lowest
pub use Rattle.cfarm_build_turns.proofs.Turning
pub use Rattle.cfarm_build_turns.proofs.Zips
