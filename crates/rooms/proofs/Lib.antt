pub mod Starts
pub mod Offers
pub mod Openings
pub mod Filled
pub use Rattle.rooms_seat.proofs.Told
