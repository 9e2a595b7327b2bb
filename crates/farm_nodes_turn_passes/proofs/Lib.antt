pub use Rattle.rooms_numbered.proofs.Sent
pub use Rattle.farm_nodes_turn_offer.proofs.Told
pub use Rattle.farm_nodes_turn_offer.proofs.Keeping
pub use Rattle.farm_nodes_turn_offer.proofs.Orders
