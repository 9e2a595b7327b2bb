pub mod Rows
pub use Rattle.rooms.specs.Opened
pub use Rattle.rooms.specs.SeatValue
