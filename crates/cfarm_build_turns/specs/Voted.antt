-- What the nodes of a farm have learned was voted for.
use Rattle.std.specs.Prelude.{◌≡◌, ℕ, List, Some, slice_get}
use Rattle.paxos_core_world.specs.Quorum.{Sizes}
use Rattle.paxos_core_world.specs.Step.{IsChosen}
use Rattle.rooms_hall.specs.declared.hall.Naming as naming
use Rattle.farm_nodes_turn_node.specs.Fours.{four_of, words_of}
use Rattle.farm_nodes_turn_node.specs.NumberedSeat.{NumberedSeat}
use Rattle.farm_nodes_turn_node.specs.Numbers.{function_of, pass_of}
use Rattle.farm_nodes_turn_node.specs.SeatState.{SeatState, seen_world}

-- For the value that the seat's node has learned all of some accept quorum voted, under one ballot, in the run of the room that the seat has seen.
abbrev pub IsVotedFor : Sizes → SeatState → Type 0
IsVotedFor q s = (v : ℕ) → s.node.learned ≡ Some v → (b : ℕ) × IsChosen q (seen_world s) b v

-- so it is in each room of a node's functions
abbrev pub AreVotedFor : {H : Type 0} {h : naming.Ghosts H} → Sizes → List (NumberedSeat H h) → Type 0
AreVotedFor {H} {h} q seats =
    (room : ℕ) (s : NumberedSeat H h) → slice_get seats (function_of room) ≡ Some s → IsVotedFor q (words_of (four_of s) (pass_of room))
