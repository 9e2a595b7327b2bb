pub mod Same
pub use Rattle.rooms_function.proofs.Sent
