pub mod Lists
pub mod EarlyRooms
pub mod Early
