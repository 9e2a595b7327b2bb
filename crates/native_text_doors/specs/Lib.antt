pub mod Fixed
pub mod Doors
