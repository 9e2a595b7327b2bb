mod Learned
mod Floats
mod Lists
pub mod Learning
mod Numbering
pub mod Zips
pub use Rattle.farm_nodes_link.proofs.Alike
pub use Rattle.farm_nodes_link.proofs.Going
pub use Rattle.farm_nodes_link.proofs.Kept
pub use Rattle.farm_nodes_link.proofs.Wanting
