-- A seat at one moment: what it knows of its room, its node, and what it has last seen of the words.
use Rattle.std.specs.Prelude.{◌≡◌, ℕ, ◌≤◌, List, [], ◌∷◌, length, map, if◌then◌else◌, Option, Some, None, slice_index_or}
use Rattle.paxos_core_world.specs.KeptPart.{nothing_kept, vote, KeptPart}
use Rattle.paxos_core_world.specs.Quorum.{AreQuorums, Sizes}
use Rattle.paxos_core_world.specs.Settled.{Settled, is_given}
use Rattle.paxos_core_world.specs.World.{World, nodes_of}
use Rattle.paxos_core_world.specs.declared.vote.Vote.{Vote}
use Rattle.paxos_core_node_steps.specs.NodeState.{NodeState, node_with}
use Rattle.paxos_core_node_steps.specs.Would.{next_promise, next_vote}
use Rattle.rooms_words.specs.declared.acceptor.AcceptorWord.{AcceptorWord}
use Rattle.rooms_words.specs.declared.proposer.ProposerWord.{ProposerWord}
use Rattle.rooms_words.specs.Deal.{dealt}
use Rattle.rooms_words.specs.declared.view.Opening.{Opening}
use Rattle.rooms_words.specs.declared.view.View.{View}
use Rattle.rooms_words.specs.Views.{world_after}
use Rattle.rooms_table.specs.RoomAt.{RoomAt}

-- which room it is, what the seat knows of its run, its node, the value that the node has proposed under the ballot that it
-- started last, and by node what was last seen of the words
pub record SeatState : Type 0 where
  pub table : RoomAt
  pub view : View
  pub node : NodeState
  pub proposed : Option ℕ
  pub proposers : List ProposerWord
  pub acceptors : List AcceptorWord

-- words of a node that has done nothing
abbrev pub no_proposer : ProposerWord
no_proposer = record { started = 0; proposed = None }

abbrev pub no_acceptor : AcceptorWord
no_acceptor = record { promised = 0; accepted = None }

-- a room with quorums of these sizes, opened from these kept parts; beyond its nodes nothing is kept
abbrev pub opening_of : Sizes → List KeptPart → Opening
opening_of q kept =
    record {
      quorums = q;
      kept = nodes_of kept 0 ∷ nodes_of kept 1 ∷ nodes_of kept 2 ∷ nodes_of kept 3 ∷ nodes_of kept 4 ∷ nodes_of kept 5 ∷ nodes_of kept 6 ∷ [];
    }

-- a room is opened with quorums that meet from kept parts that are settled, and beyond its nodes nothing is kept
pub record CanOpen (o : Opening) : Type 0 where
  pub sizes : AreQuorums o.quorums
  pub settled : Settled o.quorums (nodes_of o.kept)
  pub row : length o.kept ≡ 7
  pub beyond : (i : ℕ) → o.quorums.nodes ≤ i → nodes_of o.kept i ≡ nothing_kept

-- the words of a node as its room opens
abbrev pub opened_proposer : KeptPart → ProposerWord
opened_proposer k = record { started = k.started; proposed = None }

abbrev pub opened_acceptor : KeptPart → AcceptorWord
opened_acceptor k = record { promised = k.promised; accepted = k.accepted }

-- node i's seat as the room opens, at this place: it knows what its node has kept, and has seen all words as they were opened
abbrev pub opened_seat : RoomAt → Opening → ℕ → SeatState
opened_seat table o i =
    record {
      table = table;
      view = dealt o i;
      node = node_with i o.quorums (nodes_of o.kept i);
      proposed = None;
      proposers = map opened_proposer o.kept;
      acceptors = map opened_acceptor o.kept;
    }

-- what was last seen of node j
abbrev pub proposer_of : SeatState → ℕ → ProposerWord
proposer_of s j = slice_index_or s.proposers j no_proposer

abbrev pub acceptor_of : SeatState → ℕ → AcceptorWord
acceptor_of s j = slice_index_or s.acceptors j no_acceptor

-- the world after the run as the seat has seen it
abbrev pub seen_world : SeatState → World
seen_world s = world_after s.view.opening s.view.seen

-- the ballot last seen of j, where the node would promise it
abbrev pub promise_of : SeatState → ℕ → Option ℕ
promise_of s j = next_promise s.node (proposer_of s j).started

-- the vote, where the node would give it and has not given it yet
abbrev pub vote_by : NodeState → ℕ → Option ℕ → Option Vote
vote_by s ballot None = None
vote_by s ballot (Some value) =
    if is_given (vote ballot value) s.kept.accepted then None else next_vote s (vote ballot value)

-- the vote for what was last seen proposed by j
abbrev pub vote_of : SeatState → ℕ → Option Vote
vote_of s j = vote_by s.node (proposer_of s j).started (proposer_of s j).proposed

-- the two words of the seat's own node
abbrev pub own_words : SeatState → ProposerWord × AcceptorWord
own_words s = (
  record { started = s.node.kept.started; proposed = s.proposed },
  record { promised = s.node.kept.promised; accepted = s.node.kept.accepted },
)
