pub mod Outcomes
pub mod Dealt
pub mod Rooms
pub mod Seated
