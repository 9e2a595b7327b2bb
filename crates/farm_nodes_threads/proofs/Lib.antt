pub mod Coming
pub mod Mapped
pub mod Stopping
pub mod Turning
pub use Rattle.farm_nodes_turn_node.proofs.Sent
