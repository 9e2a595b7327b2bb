pub mod Honest
pub mod Moments
pub mod Memory
pub mod RealFile
pub use Rattle.durable_model_writes.specs.Writes
