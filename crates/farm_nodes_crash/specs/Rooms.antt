-- The nodes of a farm rest in each of its rooms.
use Rattle.std.specs.Prelude.{◌≡◌, ℕ, ◌<◌, List, Some, slice_get}
use Rattle.paxos_core_world.specs.Quorum.{Sizes}
use Rattle.rooms_seat_state.specs.SeatState.{SeatState}
use Rattle.rooms_words.specs.declared.event.Event.{Event}
use Rattle.rooms_words.specs.declared.view.Opening.{Opening}
use Rattle.rooms_crash.specs.Rest.{AreAtRest}
use Rattle.farm_nodes_turn_passes.specs.Fours.{words_of, Four}
use Rattle.farm_nodes_turn_passes.specs.Numbers.{function_of, pass_of, room_at}
use Rattle.farm_nodes_turn_passes.specs.declared.which.Which.{Which}
use Rattle.farm_nodes_crash_left.specs.Left.{NodeSeats}

-- it is the seat in this room
abbrev pub IsSeatAt : {T1 T2 T3 T4 : Type 0} → List (Four T1 T2 T3 T4) → ℕ → SeatState → Type 0
IsSeatAt {T1} {T2} {T3} {T4} seats m words =
    (s : Four T1 T2 T3 T4) × (slice_get seats (function_of m) ≡ Some s) × (words_of s (pass_of m) ≡ words)

module _ (q : Sizes) where
  -- in this room the nodes rest in some run of it
  pub record RestIn (m : ℕ) (seats : ℕ → NodeSeats) : Type 0 where
    pub opening : Opening
    pub run : List Event
    pub words : ℕ → SeatState
    pub are : (i : ℕ) → i < q.nodes → IsSeatAt (seats i) m (words i)
    pub rest : AreAtRest q opening run words

  -- so they do in each room of so many functions
  abbrev pub RoomsRest : ℕ → (ℕ → NodeSeats) → Type 0
  RoomsRest functions seats = (f : ℕ) (pass : Which) → f < functions → RestIn (room_at f pass) seats
