pub mod Lists
pub mod Offered
pub mod Told
pub use Rattle.farm_nodes_open_rooms.proofs.Seated
pub use Rattle.farm_nodes_open_stored.proofs.Texts
pub use Rattle.farm_nodes_open_stored.proofs.Nodes
