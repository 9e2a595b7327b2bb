-- Why `open` may call `open_one`.
use Rattle.std.proofs.Common.{refl}
use Rattle.rooms_meeting.proofs.Openings.{one_opens}
use Rattle.rooms_seat.proofs.opening.Dealer.open.Goals as goal

pub open_one-requires : goal.open_one-requires
open_one-requires c = record { can = one_opens 0 c.opening_of-opening.result c.opening_of-opening.ensures.can; rooms = refl }
