-- What is reported of the functions of a program: their names, and what a node has learned in their rooms.
use Rattle.std.specs.Prelude.{◌≡◌, ℕ, List, length, map, Some, slice_get}
use Rattle.std.specs.String.{string_bytes}
use Rattle.c_checker_rules.specs.Checked.{Contents}
use Rattle.rooms_hall.specs.declared.hall.Naming as naming
use Rattle.farm_nodes_link.specs.NumberedSeat.{NumberedSeat}
use Rattle.cfarm_build_result.specs.declared.function.FunctionRooms.{FunctionRooms}

-- the names of a checked program's functions
abbrev pub function_names : Contents → List (List ℕ)
function_names program = map (λ f. f.name) program.functions

module _ {H : Type 0} {h : naming.Ghosts H} where
  pub record TellsRooms (name : List ℕ) (seats : NumberedSeat H h) (told : FunctionRooms) : Type 0 where
    pub name_is : string_bytes told.name ≡ name
    pub first : seats.seat.first.words.node.learned ≡ Some told.first
    pub second : seats.seat.second.words.node.learned ≡ Some told.second
    pub third : seats.seat.third.words.node.learned ≡ Some told.third
    pub fourth : seats.seat.fourth.words.node.learned ≡ Some told.fourth

  -- of each function, in their order
  pub record AreTold (names : List (List ℕ)) (seats : List (NumberedSeat H h)) (told : List FunctionRooms) : Type 0 where
    pub count : length told ≡ length names
    pub each : (k : ℕ) (name : List ℕ) (s : NumberedSeat H h) (f : FunctionRooms) → slice_get names k ≡ Some name
        → slice_get seats k ≡ Some s → slice_get told k ≡ Some f → TellsRooms name s f
