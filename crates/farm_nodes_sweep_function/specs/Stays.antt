-- What a step leaves of the seat in its room, and the text of its offer.
use Rattle.std.specs.Prelude.{ℕ, List}
use Rattle.farm_nodes_turn_function.specs.Offers.{IsConstants, IsExpressions, IsAllocation, IsOrder}
use Rattle.farm_nodes_turn_function.specs.Played.{StaysInTurn}
use Rattle.farm_nodes_turn_function.specs.Told.{IsOwnText}
use Rattle.farm_nodes_sweep_function.specs.RoomSeat.{RoomSeat, InConstants, InExpressions, InAllocation, InOrder}

-- the seat goes on in its room as a turn leaves it
abbrev pub StaysSeat : RoomSeat → RoomSeat → Type 0
StaysSeat (InConstants s) (InConstants t) = StaysInTurn s t
StaysSeat (InExpressions s) (InExpressions t) = StaysInTurn s t
StaysSeat (InAllocation s) (InAllocation t) = StaysInTurn s t
StaysSeat (InOrder s) (InOrder t) = StaysInTurn s t
StaysSeat other another = ⊥

-- these bytes are the text of the offer that stands in the cell of the seat's own node
abbrev pub IsOwnIn : RoomSeat → List ℕ → Type 0
IsOwnIn (InConstants s) = IsOwnText IsConstants s
IsOwnIn (InExpressions s) = IsOwnText IsExpressions s
IsOwnIn (InAllocation s) = IsOwnText IsAllocation s
IsOwnIn (InOrder s) = IsOwnText IsOrder s
