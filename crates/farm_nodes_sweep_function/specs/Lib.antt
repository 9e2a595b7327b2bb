pub mod RoomSeat
pub mod Planned
pub mod Staged
pub mod Due
pub mod Stays
