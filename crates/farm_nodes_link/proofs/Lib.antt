mod Lists
pub mod Wanting
mod Beside
mod Exits
pub mod Alike
pub mod Going
pub mod Kept
pub use Rattle.farm_nodes_meet_seats.proofs.Sent
