pub mod Places
pub mod Family
pub mod Steps
pub mod Deal
pub mod Opened
pub mod RoomAt
