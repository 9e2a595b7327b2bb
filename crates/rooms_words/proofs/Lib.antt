pub mod RunLemmas
pub mod WordLemmas
pub mod Advance
pub mod Deal
pub use Rattle.paxos_core.proofs.Theorem
pub use Rattle.paxos_core.proofs.LearnsLemmas
pub use Rattle.paxos_core.proofs.LateLemmas
pub use Rattle.paxos_core.proofs.WorldLemmas
