-- Nodes of a farm each two neighbours of which meet, forth and back.
use Rattle.std.specs.Prelude.{◌≡◌, ℕ, suc, ◌<◌, List, [], length, map, Some, slice_get, unwrap_or}
use Rattle.std.specs.List.{AllByRecursion}
use Rattle.paxos_core_world.specs.Quorum.{Sizes}
use Rattle.rooms_hall.specs.declared.hall.Naming as naming
use Rattle.farm_nodes_meet_seats.specs.Held.{held_of}
use Rattle.farm_nodes_meet_seats.specs.Lists.{IsOneAt}
use Rattle.farm_nodes_turn_node.specs.Fours.{fours_of, words_of}
use Rattle.farm_nodes_turn_node.specs.NumberedSeat.{NumberedSeat}
use Rattle.farm_nodes_turn_node.specs.Which.{Which}
use Rattle.farm_nodes_meetings.specs.Meetings.{FunctionSeats, MeetForthAndBack, NodeSeats, NodesMeet}

-- each node's seats, by number
abbrev pub by_number : List NodeSeats → ℕ → NodeSeats
by_number seats i = unwrap_or (slice_get seats i) []

-- each has seats in the rooms of so many functions
abbrev pub AreOfFunctions : ℕ → List NodeSeats → Type 0
AreOfFunctions functions all = AllByRecursion (λ seats. length seats ≡ functions) all

-- whatever a node has learned in a room now it had learned there before
abbrev pub HadLearned : NodeSeats → NodeSeats → Type 0
HadLearned before now =
    (f : ℕ) (pass : Which) (s t : FunctionSeats) (v : ℕ) → slice_get before f ≡ Some s → slice_get now f ≡ Some t
    → (words_of t pass).node.learned ≡ Some v → (words_of s pass).node.learned ≡ Some v

-- Each two neighbours met, from the first node to the last, and again on the way back, on which the last node learned nothing more.
pub record MetTwice (q : Sizes) (functions : ℕ) (old new : ℕ → NodeSeats) : Type 0 where
  pub met : MeetForthAndBack q functions old new
  pub knew : HadLearned (met.between met.last) (new met.last)

-- so they did, where they are as many as the quorums have nodes, and each has seats in the rooms of so many functions
abbrev pub HaveMetTwice : List NodeSeats → List NodeSeats → Type 0
HaveMetTwice old new =
    (q : Sizes) (functions : ℕ) → q.nodes ≡ length old → 0 < length old → AreOfFunctions functions old
    → MetTwice q functions (by_number old) (by_number new)

module _ {N H : Type 0} {h : naming.Ghosts H} (seats : N → List (NumberedSeat H h)) where
  -- the seats of all nodes
  abbrev pub seats_in : List N → List NodeSeats
  seats_in nodes = map (λ n. fours_of (seats n)) nodes

  -- the node of this number and the one behind it are of one room, of each function and pass
  abbrev pub AreOneAt : List N → ℕ → Type 0
  AreOneAt nodes number =
      (n m : N) → slice_get nodes number ≡ Some n → slice_get nodes (suc number) ≡ Some m
      → (k : ℕ) → IsOneAt held_of (seats n) (seats m) k

  -- these two met, if they are of one room, and the others are as they were
  abbrev pub MeetAt : List N → List N → ℕ → Type 0
  MeetAt old new number =
      (q : Sizes) (functions : ℕ) → q.nodes ≡ length old → AreOfFunctions functions (seats_in old) → AreOneAt old number
      → NodesMeet q functions number (suc number) (by_number (seats_in old)) (by_number (seats_in new))
