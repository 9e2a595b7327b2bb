pub use Rattle.machine.proofs.Distinct
