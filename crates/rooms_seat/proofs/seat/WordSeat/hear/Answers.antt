-- Why `hear` may call `hear`.
use Rattle.std.proofs.Common.{sym, ap, ◌∙◌}
use Rattle.rooms_meeting.specs.SeatState.{SeatState}
use Rattle.rooms_seat.proofs.Steps.{some_word}
use Rattle.rooms_seat.proofs.seat.WordSeat.hear.Goals as goal

pub hear-requires : goal.hear-requires
hear-requires c =
    let one = ap (λ (s : SeatState). s.table) c.self.view_is ∙ (c.requires ∙ sym (ap (λ (s : SeatState). s.table) c.other.view_is)) in
    record { room = one; live = c.other.invariant.sound.seated.live; words = some_word _ c.self.invariant.sound }
