-- What holds of every seat.
use Rattle.std.specs.Prelude.{◌≡◌, ℕ, ◌<◌, ◌≤◌, ◌⊎◌, length}
use Rattle.paxos_core_world.specs.Ballot.{Owns}
use Rattle.paxos_core_node_steps.specs.NodeState.{offered}
use Rattle.rooms_words.specs.LateOffer.{BelongsWithLateOffer}
use Rattle.rooms_words.specs.Words.{proposed_in}
use Rattle.rooms_words.specs.Sight.{ProposerSeen, AcceptorSeen}
use Rattle.rooms_words.specs.Views.{IsLegal, IsSeated}
use Rattle.rooms_words.specs.WordsOf.{IsProposerOf}
use Rattle.rooms_table.specs.RoomAt.{HasWords}
use Rattle.rooms_seat_state.specs.SeatState.{SeatState, seen_world, proposer_of, acceptor_of}

-- a seat is its node's, what it has seen is a run of the protocol, to whose last world its node belongs,
-- and what it saw of each word is not above what stands there
pub record IsSound (s : SeatState) : Type 0 where
  pub words : HasWords s.table s.view.opening.quorums.nodes
  pub quorums : s.node.quorums ≡ s.view.opening.quorums
  pub most : s.node.quorums.nodes ≤ 7
  pub proposer_row : length s.proposers ≡ 7
  pub acceptor_row : length s.acceptors ≡ 7
  pub seated : IsSeated s.view
  pub node : s.view.node ≡ offered s.node
  pub legal : IsLegal s.view.opening s.view.seen
  pub belongs : BelongsWithLateOffer s.view.opening.quorums (seen_world s) s.view.node
  pub own_word : ℕ
  pub own : IsProposerOf (seen_world s) s.node.me own_word
  pub proposed : proposed_in own_word ≡ s.proposed
  pub proposers : (j : ℕ) → j < s.view.opening.quorums.nodes → ProposerSeen (seen_world s) j (proposer_of s j)
  pub acceptors : (j : ℕ) → j < s.view.opening.quorums.nodes → AcceptorSeen (seen_world s) j (acceptor_of s j)
  pub owned : (j : ℕ) → j < s.view.opening.quorums.nodes → ((proposer_of s j).started ≡ 0) ⊎ Owns s.view.opening.quorums.nodes j (proposer_of s j).started
