-- Nodes of a farm that hear of one another in meetings.
use Rattle.std.specs.Prelude.{◌≡◌, ℕ, ◌<◌, List, length, Some, slice_get}
use Rattle.paxos_core_world.specs.Quorum.{Sizes}
use Rattle.rooms_crash.specs.Meetings.{IsSeatOf}
use Rattle.rooms_crash_heard.specs.Heard.{AllHearOf, HearsOfAll}
use Rattle.farm_nodes_turn_passes.specs.Fours.{words_of}
use Rattle.farm_nodes_turn_passes.specs.declared.which.Which.{Which}
pub use Rattle.farm_nodes_meetings.specs.Meetings.{FunctionSeats, MeetForthAndBack, NodeSeats, NodesMeet, NodesMeetings}
use Rattle.farm_nodes_crash.specs.Rooms.{RoomsRest}

module _ (q : Sizes) (functions : ℕ) where
  -- each node has its seats in the rooms of so many functions, each of the run that it has seen
  pub record AreSeats (seats : ℕ → NodeSeats) : Type 0 where
    pub count : (i : ℕ) → i < q.nodes → length (seats i) ≡ functions
    pub each : (i f : ℕ) (pass : Which) (s : FunctionSeats) → i < q.nodes → slice_get (seats i) f ≡ Some s → IsSeatOf q i (words_of s pass)

  -- node h hears of all, and all hear of it again, with nothing but meetings between
  pub record HearAll (h : ℕ) (old : ℕ → NodeSeats) : Type 0 where
    pub one : h < q.nodes
    pub first : List (ℕ × ℕ)
    pub second : List (ℕ × ℕ)
    pub between : ℕ → NodeSeats
    pub new : ℕ → NodeSeats
    pub met : NodesMeetings q functions first old between
    pub heard : HearsOfAll first q.nodes h
    pub met_again : NodesMeetings q functions second between new
    pub hear : AllHearOf second q.nodes h

  -- ---- the promises

  -- Where node h hears of all, and all hear of it again, all rest in each room as they were before.
  abbrev pub NodesThatHeardRest : Type 0
  NodesThatHeardRest = (h : ℕ) (old : ℕ → NodeSeats) → AreSeats old → HearAll h old → RoomsRest q functions old

  -- so they do where neighbours meet forth and back: the last node hears of all
  abbrev pub NeighboursHearAll : Type 0
  NeighboursHearAll = (old new : ℕ → NodeSeats) → MeetForthAndBack q functions old new → (h : ℕ) × HearAll h old
