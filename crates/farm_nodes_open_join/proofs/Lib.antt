pub mod Moving
pub mod Sound
pub use Rattle.farm_nodes_turn_node.proofs.Rooms
