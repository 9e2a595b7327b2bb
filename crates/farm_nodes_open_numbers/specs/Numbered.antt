-- Seats of one function, each with its claim.
use Rattle.std.specs.Prelude.{◌≡◌, ℕ, List, Option, All, map}
use Rattle.paxos_core_world.specs.KeptPart.{KeptPart}
use Rattle.paxos_core_world.specs.Quorum.{Sizes}
use Rattle.rooms_hall.specs.Claimed.{Claimed}
use Rattle.rooms_hall.specs.RoomId.{AreNumbered, RoomId}
use Rattle.rooms.specs.Opened.{AreOpened}
use Rattle.rooms.specs.SeatValue.{SeatValue}
use Rattle.farm_nodes_turn_passes.specs.FunctionSeat.{FunctionSeat}
use Rattle.farm_nodes_turn_passes.specs.FunctionOf.{function_of}

-- the seats are all of these rooms, whose table was opened with this number
pub record AreOfOneFunction (number : ℕ) (seats : List FunctionSeat) : Type 0 where
  pub rooms : RoomId
  pub each : All (λ s. function_of s ≡ rooms) seats
  pub numbered : AreNumbered number rooms.places

-- all of them claim one number for the same rooms
pub record HaveOneClaim (claims : List Claimed) : Type 0 where
  pub claim : Claimed
  pub each : All (λ c. c ≡ claim) claims

-- They are the seats of the nodes of a room as it opens with quorums of these sizes, from these kept parts and offers, in the order of
-- the nodes, and all of them have the claim of one number.
pub record IsOpenedRoom {T : Type 0} (q : Sizes) (kept : List KeptPart) (offers : List (Option T)) (seats : List (SeatValue T × Claimed)) : Type 0 where
  pub opened : AreOpened q kept offers (map (λ p. p.0) seats)
  pub one : HaveOneClaim (map (λ p. p.1) seats)
