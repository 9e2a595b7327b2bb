pub mod Told
pub mod Rooms
pub mod Noted
pub mod Plays
pub mod Lines
