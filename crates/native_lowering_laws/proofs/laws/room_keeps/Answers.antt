-- Why `room_keeps` meets its contract.
use Rattle.native_lowering_room.proofs.Room.{keeps_in_room}
use Rattle.native_lowering_laws.proofs.laws.room_keeps.Goals as goal

pub returns : goal.returns
returns c = keeps_in_room
