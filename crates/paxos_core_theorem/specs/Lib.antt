pub mod Agreement
pub mod OneCode
pub mod Tests
pub use Rattle.paxos_core_invariant.specs.Invariant
