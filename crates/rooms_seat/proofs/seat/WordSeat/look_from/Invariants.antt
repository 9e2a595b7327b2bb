use Rattle.std.proofs.Common.{◌≡◌}
use Rattle.rooms_meeting.specs.Met.{LookedAtFirst}
use Rattle.rooms_meeting.specs.SeatState.{SeatState}
use Rattle.rooms_seat.proofs.seat.WordSeat.look_from.Given as goal

abbrev pub invariant-loop-j : goal.invariant-loop-j
invariant-loop-j l =
    record {
      on : (start : SeatState) → LookedAtFirst l.first start l.initial.self → LookedAtFirst l.j start l.self;
      same : l.self.node.quorums ≡ l.initial.self.node.quorums;
    }
