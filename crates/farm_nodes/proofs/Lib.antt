mod Fit
mod One
pub use Rattle.farm_nodes_threads.proofs.Turning
pub use Rattle.farm_nodes_threads.proofs.Sent
