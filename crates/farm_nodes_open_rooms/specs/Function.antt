-- The four rooms of a function, as they open.
use Rattle.std.specs.Prelude.{◌≡◌, ℕ, List, Option, length, map}
use Rattle.std.specs.Global.{Vec}
use Rattle.paxos_core_world.specs.KeptPart.{KeptPart}
use Rattle.paxos_core_world.specs.Quorum.{Sizes}
use Rattle.rooms_hall.specs.declared.hall.Naming as naming
use Rattle.farm_nodes_turn_passes.specs.Numbers.{function_of, room_at}
use Rattle.farm_nodes_turn_passes.specs.Offers.{ConstantsOffer, ExpressionsOffer, AllocationOffer, OrderOffer}
use Rattle.farm_nodes_turn_passes.specs.declared.passes.Passes.{Passes}
use Rattle.farm_nodes_turn_passes.specs.NumberedSeat.{NumberedSeat}
use Rattle.farm_nodes_turn_passes.specs.declared.which.Which.TheVariants.{Constants, Expressions, Allocation, Order}
use Rattle.farm_nodes_open_lists.specs.Rows.{offers_of, rows_of, AreForOthers}
use Rattle.farm_nodes_open_numbers.specs.Kept.{kept_of, AreSettled, AreSettledBefore, IsOfferedIn, IsSettledIn}
use Rattle.farm_nodes_open_numbers.specs.Numbered.{IsOpenedRoom}
use Rattle.farm_nodes_open_numbers.specs.declared.fault.RoomFault.{RoomFault}
use Rattle.farm_nodes_open_numbers.specs.declared.fault.RoomFault.TheVariants.{CellRefused, NoMemory, Unsettled}
use Rattle.rooms.specs.declared.error.RoomError.{RoomError}
use Rattle.rooms.specs.declared.error.RoomError.TheVariants as error
use Rattle.farm_nodes_turn_passes.specs.FunctionOffers.{FunctionOffers}

-- the offers of the nodes, pass by pass: node by node, for each function
abbrev pub Offered : Type 0
Offered = Passes (Vec (Vec (Option ConstantsOffer))) (Vec (Vec (Option ExpressionsOffer))) (Vec (Vec (Option AllocationOffer))) (Vec (Vec (Option OrderOffer)))

-- those for other functions are left
pub record AreTaken (function : ℕ) (before after : Offered) : Type 0 where
  pub constants : AreForOthers function (rows_of before.constants.items) (rows_of after.constants.items)
  pub expressions : AreForOthers function (rows_of before.expressions.items) (rows_of after.expressions.items)
  pub allocation : AreForOthers function (rows_of before.allocation.items) (rows_of after.allocation.items)
  pub order : AreForOthers function (rows_of before.order.items) (rows_of after.order.items)

-- in each room the nodes' seats are those of the room as it opens, with quorums of these sizes, from what was kept of it and offered there
pub record IsOpenFunction {H : Type 0} {h : naming.Ghosts H} (q : Sizes) (kept : List (Vec KeptPart)) (f : ℕ) (offers : Offered) (nodes : List (NumberedSeat H h)) : Type 0 where
  pub constants : IsOpenedRoom q (kept_of kept (room_at f Constants)) (offers_of (rows_of offers.constants.items) f) (map (λ n. (n.seat.first, n.claim)) nodes)
  pub expressions : IsOpenedRoom q (kept_of kept (room_at f Expressions)) (offers_of (rows_of offers.expressions.items) f) (map (λ n. (n.seat.second, n.claim)) nodes)
  pub allocation : IsOpenedRoom q (kept_of kept (room_at f Allocation)) (offers_of (rows_of offers.allocation.items) f) (map (λ n. (n.seat.third, n.claim)) nodes)
  pub order : IsOpenedRoom q (kept_of kept (room_at f Order)) (offers_of (rows_of offers.order.items) f) (map (λ n. (n.seat.fourth, n.claim)) nodes)
  pub count : length nodes ≡ length kept
  pub settled : AreSettled q kept f

-- The room is one of the function's, and what was kept of those in front of it is settled. Of this one it is not, where it is said so;
-- and where a cell refused, somebody has offered there.
pub record IsRoomFault (q : Sizes) (nodes : List (Vec KeptPart)) (function room : ℕ) (fault : RoomFault) : Type 0 where
  pub of_function : function_of room ≡ function
  pub before : AreSettledBefore q nodes function room
  pub unsettled : fault ≡ Unsettled → ¬ IsSettledIn q nodes room
  pub refused : fault ≡ CellRefused → IsOfferedIn nodes room

-- why a room is not opened, in the words of the farm
abbrev pub room_fault : RoomError → RoomFault
room_fault error.NoMemory = NoMemory
room_fault error.Unsettled = Unsettled
room_fault error.CellRefused = CellRefused

-- they are those for the function
pub record AreHere (f : ℕ) (offers : Offered) (here : FunctionOffers) : Type 0 where
  pub constants : here.first.items ≡ offers_of (rows_of offers.constants.items) f
  pub expressions : here.second.items ≡ offers_of (rows_of offers.expressions.items) f
  pub allocation : here.third.items ≡ offers_of (rows_of offers.allocation.items) f
  pub order : here.fourth.items ≡ offers_of (rows_of offers.order.items) f
