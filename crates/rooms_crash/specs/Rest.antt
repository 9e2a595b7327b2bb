-- Nodes that rest in a run of their room: behind what a node's seat has seen, nothing in the run changes what the node keeps.
use Rattle.std.specs.Prelude.{◌≡◌, ℕ, ◌<◌, ◌⊎◌, List, [], ◌∷◌, ◌++◌, Some}
use Rattle.paxos_core_world.specs.KeptPart.{KeptPart}
use Rattle.paxos_core_world.specs.Quorum.{Sizes}
use Rattle.paxos_core_world.specs.Step.{Label, Offers, Starts, Promises, Proposes, Accepts, Learns, Restarts}
use Rattle.paxos_core_world.specs.World.{nodes_of}
use Rattle.paxos_core_crash.specs.Crash.{IsLeftByCrash}
use Rattle.rooms_words.specs.declared.event.Event.{Event}
use Rattle.rooms_words.specs.Events.{labels_of}
use Rattle.rooms_words.specs.declared.view.Opening.{Opening}
use Rattle.rooms_meeting.specs.SeatState.{SeatState, CanOpen, opened_seat}
use Rattle.rooms_words.specs.Views.{IsLegal, IsStepOfOther, world_after}
use Rattle.rooms_meeting.specs.Met.{IsKnown}
use Rattle.rooms_meeting.specs.RoomAt.{RoomAt}
use Rattle.rooms_crash.specs.Held.{MayHold}
use Rattle.rooms_crash.specs.OfRun.{StandsInRun}

-- somebody learns or comes back: nobody keeps anything else then
abbrev pub IsNote : Label → Type 0
IsNote (Offers i) = ⊥
IsNote (Starts i b) = ⊥
IsNote (Promises a b) = ⊥
IsNote (Proposes b v) = ⊥
IsNote (Accepts a b v) = ⊥
IsNote (Learns i v) = Unit {0}
IsNote (Restarts i) = Unit {0}

-- these steps leave what node i of n keeps: those of others, and notes
abbrev pub Spare : ℕ → ℕ → List Label → Type 0
Spare n i [] = Unit {0}
Spare n i (l ∷ ls) = (IsStepOfOther n i l ⊎ IsNote l) × Spare n i ls

-- in this run the seat's node rests behind what the seat has seen
pub record Rests (run : List Event) (s : SeatState) : Type 0 where
  pub behind : List Event
  pub run_is : run ≡ behind ++ s.view.seen
  pub spare : Spare s.view.opening.quorums.nodes s.node.me (labels_of behind)

-- The nodes of a room with quorums of these sizes rest in this run of it, each at its seat, which is of the run that it has seen.
pub record AreAtRest (q : Sizes) (o : Opening) (run : List Event) (seats : ℕ → SeatState) : Type 0 where
  pub quorums : o.quorums ≡ q
  pub legal : IsLegal o run
  pub opening : (i : ℕ) → i < q.nodes → (seats i).view.opening ≡ o
  pub me : (i : ℕ) → i < q.nodes → (seats i).node.me ≡ i
  pub stands : (i : ℕ) → i < q.nodes → StandsInRun (seats i)
  pub rests : (i : ℕ) → i < q.nodes → Rests run (seats i)

-- ---- the promises

-- what their journals may hold is what a crash of all nodes leaves in the world after the run
abbrev pub RestLeaves : Type 0
RestLeaves =
    (q : Sizes) (o : Opening) (run : List Event) (seats : ℕ → SeatState) (left : ℕ → KeptPart) → AreAtRest q o run seats
    → ((i : ℕ) → i < q.nodes → MayHold (seats i) (left i)) → IsLeftByCrash q (world_after o run) left

-- as a room opens, its nodes rest in the run without steps
abbrev pub OpenedRest : Type 0
OpenedRest =
    (table : RoomAt) (o : Opening) → CanOpen o → AreAtRest o.quorums o [] (λ i. opened_seat table o i)

-- Where a room opens again from what they may hold, what is learned there is what was learned before.
abbrev pub LearnsAgain : Type 0
LearnsAgain =
    (q : Sizes) (o : Opening) (run : List Event) (seats : ℕ → SeatState) (again : Opening) → AreAtRest q o run seats → again.quorums ≡ q
    → ((i : ℕ) → i < q.nodes → MayHold (seats i) (nodes_of again.kept i))
    → (i v u : ℕ) (later : SeatState) → i < q.nodes → IsKnown (seats i) → IsKnown later → later.view.opening ≡ again
    → (seats i).node.learned ≡ Some v → later.node.learned ≡ Some u → v ≡ u
