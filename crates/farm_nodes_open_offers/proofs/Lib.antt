pub mod Walks
pub mod Keeping
pub mod Placing
pub mod Answering
pub mod Gathering
pub mod Writing
pub use Rattle.farm_nodes_turn_passes.proofs.Told
