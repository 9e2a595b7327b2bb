-- The numbers that a user is shown beside the names of refusals.
use Rattle.std.specs.Prelude.{ℕ}
use Rattle.rooms.specs.declared.error.RoomError.{RoomError}
use Rattle.rooms.specs.declared.error.RoomError.TheVariants.{NoMemory, Unsettled, CellRefused}

abbrev pub number_of : RoomError → ℕ
number_of NoMemory = 1
number_of Unsettled = 510
number_of CellRefused = 511
