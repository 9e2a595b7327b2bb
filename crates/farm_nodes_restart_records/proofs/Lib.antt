pub mod Rooms
pub mod Leaving
pub mod Own
pub mod Keeping
mod Texts
pub use Rattle.farm_nodes_turn_passes.proofs.Sent
