-- A seat that holds nothing but what stands in the run that it has seen.
use Rattle.std.specs.Prelude.{◌≡◌, ℕ, ◌<◌, true, Some, IsTrue}
use Rattle.paxos_core_node_steps.specs.NodeState.{offered}
use Rattle.paxos_core_crash.specs.LateOffer.{BelongsWithLateOffer}
use Rattle.rooms_words.specs.Sight.{ProposerSeen}
use Rattle.rooms_meeting.specs.SeatState.{SeatState, proposer_of, seen_world}
use Rattle.rooms_words.specs.Views.{IsLegal}

-- An offer of the node that stands in the world that its seat has seen was made. The run has it at the latest with the step that proposes it,
-- so the offer may be made, and not stand there yet.
abbrev pub IsOfferMade : SeatState → Type 0
IsOfferMade s = IsTrue ((seen_world s).nodes s.node.me).offered → IsTrue s.node.kept.offered

-- The run that it has seen is one of the protocol, its node belongs to the last world, but that its offer may not stand there yet, and what it saw of
-- proposers was sent there; an offer of the node that stands there was made.
pub record StandsInRun (s : SeatState) : Type 0 where
  pub quorums : s.node.quorums ≡ s.view.opening.quorums
  pub node : s.view.node ≡ offered s.node
  pub legal : IsLegal s.view.opening s.view.seen
  pub belongs : BelongsWithLateOffer s.view.opening.quorums (seen_world s) s.view.node
  pub proposers : (j : ℕ) → j < s.view.opening.quorums.nodes → ProposerSeen (seen_world s) j (proposer_of s j)
  pub made : IsOfferMade s

-- and a node that has a ballot under way has offered
pub record IsOfRun (s : SeatState) : Type 0 where
  pub stands : StandsInRun s
  pub offered_first : (b : ℕ) → s.node.ballot ≡ Some b → s.node.kept.offered ≡ true

-- It is of the same room as before, with perhaps more of its run seen: that opened as it did, and the seat is of its run, if it was.
pub record GoesOn (old new : SeatState) : Type 0 where
  pub opening : new.view.opening ≡ old.view.opening
  pub of_run : IsOfRun old → IsOfRun new
