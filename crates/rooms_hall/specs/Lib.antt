pub mod RoomId
pub mod Rule
pub mod Steps
pub mod Claimed
