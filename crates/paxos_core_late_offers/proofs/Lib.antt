pub mod LateLemmas
pub use Rattle.paxos_core_node_steps.proofs.BelongsLemmas
pub use Rattle.paxos_core_node_steps.proofs.NoteLemmas
pub use Rattle.paxos_core_node_steps.proofs.ReachedLemmas
pub use Rattle.paxos_core_node_steps.proofs.Reopens
pub use Rattle.paxos_core_node_steps.proofs.TakesLemmas
pub use Rattle.paxos_core_node_steps.proofs.Theorem
pub use Rattle.paxos_core_node_steps.proofs.WorldLemmas
