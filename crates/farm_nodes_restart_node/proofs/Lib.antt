pub mod Afterwards
pub mod Resting
pub mod Refusing
pub use Rattle.farm_nodes_restart_records.proofs.Leaving
pub use Rattle.farm_nodes_restart_records.proofs.Own
