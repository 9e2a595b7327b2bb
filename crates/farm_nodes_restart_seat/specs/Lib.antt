pub mod Places
pub mod Refusals
pub mod Taken
pub mod Telling
pub use Rattle.farm_nodes_turn_offer.specs.Told
pub use Rattle.farm_nodes_turn_offer.specs.declared.halt.Fault
pub use Rattle.farm_nodes_turn_offer.specs.SeatValue
