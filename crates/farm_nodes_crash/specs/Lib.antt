pub mod Rooms
pub mod Meeting
pub mod Stand
pub mod Machine
pub mod Again
