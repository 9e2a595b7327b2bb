-- The order of the rooms of the passes up to one: function by function, and in each pass by pass.
use Rattle.std.specs.Prelude.{ℕ, ◌+◌, ◌*◌, ◌/◌, ◌%◌, ◌<◌, ◌≤◌}
use Rattle.farm_nodes_turn_node.specs.Numbers.{function_of, pass_of, place_of}
use Rattle.farm_nodes_turn_node.specs.Which.{Which}
use Rattle.farm_nodes_turn_node.specs.Which.TheVariants.{Constants, Expressions, Allocation, Order}

-- the room at this place
abbrev pub room_until : Which → ℕ → ℕ
room_until Constants place = 4 * place
room_until Expressions place = 4 * (place / 2) + place % 2
room_until Allocation place = 4 * (place / 3) + place % 3
room_until Order place = place

-- a room of one of so many functions, whose number 16 bits hold
pub record IsRoomOf (functions room : ℕ) : Type 0 where
  pub function : function_of room < functions
  pub held : room < 65536

-- its pass is this one, or one before it
abbrev pub IsEarly : Which → ℕ → Type 0
IsEarly until room = place_of (pass_of room) ≤ place_of until
