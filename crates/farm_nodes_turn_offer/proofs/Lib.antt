pub mod Leavings
pub use Rattle.farm_nodes_turn_step.proofs.Told
pub use Rattle.farm_nodes_turn_step.proofs.Keeping
pub use Rattle.farm_nodes_turn_step.proofs.Records
pub use Rattle.farm_nodes_turn_step.proofs.Steps
pub use Rattle.farm_nodes_turn_step.proofs.Orders
pub use Rattle.farm_nodes_turn_step.proofs.Results
pub use Rattle.farm_nodes_turn_step.proofs.Rooms
