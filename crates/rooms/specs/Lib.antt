pub mod SeatValue
pub mod Opened
pub mod Refusals
pub use Rattle.rooms_seat.specs.Dealing
pub use Rattle.rooms_seat.specs.Meeting
pub use Rattle.rooms_seat.specs.declared.meeting.Meeting as RoomsSeatMeeting
pub use Rattle.rooms_seat.specs.declared.opening.FourDealers
pub use Rattle.rooms_seat.specs.SeatState
pub use Rattle.rooms_seat.specs.Did
pub use Rattle.rooms_seat.specs.RoomAt
pub use Rattle.rooms_seat.specs.Would
pub use Rattle.rooms_seat.specs.SeatAct
pub use Rattle.rooms_seat.specs.Opening
