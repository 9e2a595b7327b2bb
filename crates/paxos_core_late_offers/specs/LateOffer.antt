-- A node whose offer stands in a cell of its own, which is no part of the world: the run has the offer at the latest with the
-- step by which the node proposes its own number. Until then the world may show all that the node keeps but the offer.
use Rattle.std.specs.Prelude.{◌≡◌, ◌≢◌, ℕ, ◌<◌, ◌≤◌, ◌⊎◌, Bool, ◌&&◌, not, if◌then◌else◌, List, [], ◌∷◌, ◌++◌, Option, Some, None, is_some, is_none, IfSome}
use Rattle.paxos_core_node_steps.specs.KeptPart.{KeptPart, without_offer}
use Rattle.paxos_core_node_steps.specs.Quorum.{Sizes}
use Rattle.paxos_core_node_steps.specs.Run.{IsRun, reached}
use Rattle.paxos_core_node_steps.specs.PaxosCoreWorldStep.{Label, Offers, after}
use Rattle.paxos_core_node_steps.specs.World.{World, Has}
use Rattle.paxos_core_node_steps.specs.Msg.{Msg}
use Rattle.paxos_core_node_steps.specs.Msg.TheVariants.{Prepare}
use Rattle.paxos_core_node_steps.specs.Belongs.{Belongs}
use Rattle.paxos_core_node_steps.specs.Message.{reply, after_message}
use Rattle.paxos_core_node_steps.specs.NodeState.{NodeState, offered, restarted}
use Rattle.paxos_core_node_steps.specs.Notes.{highest_below}
use Rattle.paxos_core_node_steps.specs.Proposer.{next_ballot, started, next_proposal, proposal, after_proposal}
use Rattle.paxos_core_node_steps.specs.Reached.{IsReached}
use Rattle.paxos_core_node_steps.specs.Taken.{taken_by_start, taken_by_propose, taken_by_restart, taken_on}
use Rattle.paxos_core_node_steps.specs.Takes.{IsStepOf, AreStepsOf}

-- the node without its offer
abbrev pub unoffered : NodeState → NodeState
unoffered s = record s { kept = without_offer s.kept }

-- the node belongs to the world, but that its offer, if it has made one, may not stand there yet
abbrev pub BelongsWithLateOffer : Sizes → World → NodeState → Type 0
BelongsWithLateOffer q w s = Belongs q w s ⊎ Belongs q w (unoffered s)

-- the node proposes its own number: no promise reports a vote
abbrev pub proposes_own : NodeState → Bool
proposes_own s = is_some (next_proposal s) && is_none (highest_below s.quorums.nodes s.promises)

-- the node proposes its own number, and the run has not had its offer
abbrev pub owes_offer : World → NodeState → Bool
owes_offer w s = proposes_own s && not (w.nodes s.me).offered

-- propose: the offer comes together with the proposal
abbrev pub taken_late_by_propose : World → NodeState → List Label
taken_late_by_propose w s = if owes_offer w s then taken_by_propose s ++ Offers s.me ∷ [] else taken_by_propose s

-- from world w the node takes these steps, is s after them but for its offer, and gives this answer
pub record TakesLate (q : Sizes) (w : World) (labels : List Label) (s : NodeState) (answer : Option Msg) : Type 0 where
  pub run : IsRun q w labels
  pub own : AreStepsOf q.nodes s.me labels
  pub belongs : BelongsWithLateOffer q (reached w labels) s
  pub sent : IfSome answer (λ m. Has m (reached w labels).sent)

-- a call that makes the node t of s takes these steps, in every world that can come about and to which s belongs but for its offer
abbrev pub TakesStepsLate : NodeState → NodeState → (World → List Label) → Option Msg → Type 0
TakesStepsLate s t labels answer = (q : Sizes) (w : World) → IsReached q w → BelongsWithLateOffer q w s → TakesLate q w (labels w) t answer

-- ---- the promises

-- a step of another node leaves the node in its world
abbrev pub OthersLeaveIt : Type 0
OthersLeaveIt =
    (q : Sizes) (w : World) (l : Label) (s : NodeState) (j : ℕ) → IsStepOf q.nodes j l → s.me ≢ j
    → (Belongs q w s → Belongs q (after w l) s) × (BelongsWithLateOffer q w s → BelongsWithLateOffer q (after w l) s)

-- each call, where the run has the node's offer at the latest with the proposal of its own number
pub record OffersMayBeLate : Type 0 where
  pub offer : (s : NodeState) → TakesStepsLate s (offered s) (λ _. []) None
  pub start : (s : NodeState) → next_ballot s ≤ 65535 → TakesStepsLate s (started s) (λ _. taken_by_start s) (Some (Prepare (next_ballot s)))
  pub propose : (s : NodeState) → TakesStepsLate s (after_proposal s) (λ w. taken_late_by_propose w s) (proposal s)
  pub message : (s : NodeState) (m : Msg) (q : Sizes) (w : World) → IsReached q w → BelongsWithLateOffer q w s → Has m w.sent
      → TakesLate q w (taken_on s m) (after_message s m) (reply s m)
  pub forget : (s : NodeState) → TakesStepsLate s (restarted s s.kept) (λ _. taken_by_restart s) None
  pub restart : (s : NodeState) (k : KeptPart) (q : Sizes) (w : World) → s.me < q.nodes → s.quorums ≡ q → (w.nodes s.me ≡ k) ⊎ (w.nodes s.me ≡ without_offer k)
      → TakesLate q w (taken_by_restart s) (restarted s k) None
