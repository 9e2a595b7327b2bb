pub use Rattle.farm_nodes.proofs.Turning
