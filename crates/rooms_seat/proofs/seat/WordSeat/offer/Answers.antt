-- Why what `offer` leaves is in order.
use Rattle.std.proofs.Common.{refl}
use Rattle.rooms_meeting.proofs.Moves.{offer_sound}
use Rattle.rooms_meeting.proofs.Hearing.{same_offered}
use Rattle.rooms_meeting.proofs.Sweeps.{kept_heard}
use Rattle.rooms_seat.proofs.seat.WordSeat.offer.Goals as goal

pub invariant_of-self : goal.invariant_of-self
invariant_of-self c = rw c.offer-first.ensures.state (kept_heard _ _ _ c.self.invariant (offer_sound _ c.self.invariant.sound) refl (same_offered c.self.inside.node))
