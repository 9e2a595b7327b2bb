pub mod Turns
pub use Rattle.farm_nodes_turn_offer.proofs.Told
pub use Rattle.farm_nodes_turn_offer.proofs.Rooms
pub use Rattle.farm_nodes_turn_leading.proofs.UnderWay
