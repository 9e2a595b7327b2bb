-- How the rooms of a farm are numbered: four times the function's number, and the pass's behind it, the first pass's being 0.
use Rattle.std.specs.Prelude.{ℕ, zero, suc, ◌+◌, ◌*◌, ◌/◌, ◌%◌}
use Rattle.farm_nodes_turn_passes.specs.declared.which.Which.{Which}
use Rattle.farm_nodes_turn_passes.specs.declared.which.Which.TheVariants.{Constants, Expressions, Allocation, Order}

-- the pass at this place, the first being 0
abbrev pub pass_at : ℕ → Which
pass_at zero = Constants
pass_at (suc zero) = Expressions
pass_at (suc (suc zero)) = Allocation
pass_at (suc (suc (suc _))) = Order

-- its place
abbrev pub place_of : Which → ℕ
place_of Constants = 0
place_of Expressions = 1
place_of Allocation = 2
place_of Order = 3

-- the pass of a room
abbrev pub pass_of : ℕ → Which
pass_of room = pass_at (room % 4)

-- the function of a room
abbrev pub function_of : ℕ → ℕ
function_of room = room / 4

-- the room of a function's pass
abbrev pub room_at : ℕ → Which → ℕ
room_at function pass = 4 * function + place_of pass
