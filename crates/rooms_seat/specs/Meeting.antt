-- What a seat knows of its room for certain, and what two seats of one room know and tell once they have met.
use Rattle.std.specs.Prelude.{ℕ, Option, Some, None}
use Rattle.rooms_seat.specs.declared.meeting.Meeting.{Meeting}
use Rattle.rooms_seat.specs.declared.meeting.Meeting.TheVariants.{Neither, One, Same}
pub use Rattle.rooms_meeting.specs.Met.{IsKnown, IsBounded, LookedOn, Remains, HaveMet}

-- what two nodes that have learned this tell
abbrev pub meeting_of : Option ℕ → Option ℕ → Meeting
meeting_of None None = Neither
meeting_of (Some v) None = One
meeting_of None (Some u) = One
meeting_of (Some v) (Some u) = Same v
