pub mod Standings
pub mod Whole
pub use Rattle.farm_nodes_turn_function.proofs.Places
pub use Rattle.farm_nodes_turn_function.proofs.Rooms
pub use Rattle.farm_nodes_turn_function.proofs.Keeping
pub use Rattle.farm_nodes_turn_function.proofs.Sent
pub use Rattle.farm_nodes_turn_function.proofs.UnderWay
