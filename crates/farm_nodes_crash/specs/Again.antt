-- What the nodes of a farm learn that opens over what a crash of all nodes left.
use Rattle.std.specs.Prelude.{◌≡◌, ℕ, ◌<◌, List, length, Option, Some, slice_get}
use Rattle.std.specs.Global.{Vec}
use Rattle.durable_model.specs.declared.disk.Disk as disks
use Rattle.durable_pair.specs.declared.pair.Pair as pairs
use Rattle.paxos_core_world.specs.KeptPart.{KeptPart}
use Rattle.paxos_core_world.specs.Quorum.{Sizes}
use Rattle.acceptor_log.specs.Acknowledged.{acknowledged}
use Rattle.acceptor_log.specs.declared.log.Log.{Log}
use Rattle.rooms_seat_state.specs.SeatState.{SeatState, opening_of}
use Rattle.rooms_crash.specs.OfRun.{IsOfRun}
use Rattle.farm_nodes_turn_passes.specs.Fours.{words_of}
use Rattle.farm_nodes_turn_passes.specs.Numbers.{room_at}
use Rattle.farm_nodes_turn_passes.specs.declared.which.Which.{Which}
use Rattle.farm_nodes_turn_node.specs.declared.halted.Halted.{Halted}
use Rattle.farm_nodes_open_numbers.specs.Kept.{kept_of}
use Rattle.farm_nodes_open_stored.specs.Nodes.{AreMade}
use Rattle.farm_nodes_open_stored.specs.Read.{AreKept}
use Rattle.farm_nodes_open_nodes.specs.Back.{IsJournalOn}
use Rattle.farm_nodes_crash_left.specs.Left.{AreLeftOf, NodeSeats}
use Rattle.farm_nodes_crash.specs.Meeting.{FunctionSeats, HearAll}
use Rattle.farm_nodes_crash.specs.Rooms.{RoomsRest}

-- a seat in a room that opened from these kept parts, whatever was done with it since
pub record IsLaterSeat (q : Sizes) (kept : List KeptPart) (s : SeatState) : Type 0 where
  pub opening : s.view.opening ≡ opening_of q kept
  pub of_run : IsOfRun s

module _ {D : Type 0} (disk : disks.Ghosts D) (pair : pairs.Ghosts D) (q : Sizes) where
  -- The journals on these pairs, and what the nodes have kept by what they have acknowledged. So it is as a farm opens.
  pub record AreOpenedOn (digest : List ℕ) (functions : ℕ) (given : List D) (again : List (Log D)) (kept : List (Vec KeptPart)) : Type 0 where
    pub journals : AreMade (IsJournalOn disk pair q digest) given (length given) again
    pub are_kept : AreMade (λ i log k. disk.is_honest log.disk → AreKept functions (length again) i (acknowledged disk.seen log) k.items)
        again (length again) kept

  -- ---- the promises

  -- Where the nodes rested as all crashed, what is learned in a room of the farm that opens over that is what was learned there before.
  abbrev pub LearnedAgain : Type 0
  LearnedAgain =
      (digest : List ℕ) (functions : ℕ) (logs : ℕ → Log D) (seats : ℕ → NodeSeats) (halted : ℕ → Option Halted) (given : List D)
      → AreLeftOf disk pair q digest functions logs seats halted given → RoomsRest q functions seats
      → (again : List (Log D)) (kept : List (Vec KeptPart)) → AreOpenedOn digest functions given again kept
      → (f : ℕ) (pass : Which) (i : ℕ) (s : FunctionSeats) (later : SeatState) → f < functions → i < q.nodes → slice_get (seats i) f ≡ Some s
      → IsLaterSeat q (kept_of kept (room_at f pass)) later
      → (v u : ℕ) → (words_of s pass).node.learned ≡ Some v → later.node.learned ≡ Some u → v ≡ u

  -- Where node h hears of all in meetings, and all of it again, with nothing but meetings between, what node h has learned by then is what is
  -- learned in the room of the farm that opens over what a crash left.
  abbrev pub HeardIsLearnedAgain : Type 0
  HeardIsLearnedAgain =
      (digest : List ℕ) (functions : ℕ) (logs : ℕ → Log D) (seats : ℕ → NodeSeats) (halted : ℕ → Option Halted) (given : List D)
      → AreLeftOf disk pair q digest functions logs seats halted given → (h : ℕ) (heard : HearAll q functions h seats)
      → (again : List (Log D)) (kept : List (Vec KeptPart)) → AreOpenedOn digest functions given again kept
      → (f : ℕ) (pass : Which) (s : FunctionSeats) (later : SeatState) → f < functions → slice_get (heard.between h) f ≡ Some s
      → IsLaterSeat q (kept_of kept (room_at f pass)) later
      → (v u : ℕ) → (words_of s pass).node.learned ≡ Some v → later.node.learned ≡ Some u → v ≡ u
