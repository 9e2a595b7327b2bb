pub mod Recorded
pub mod Ordered
pub mod OfferIn
pub use Rattle.rooms_seat.specs.Meeting
