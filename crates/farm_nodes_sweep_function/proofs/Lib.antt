pub mod Told
pub mod Passes
pub mod RoomSeats
pub mod Stepping
pub mod Staying
pub mod Looking
