pub mod Locations
pub mod Changes
pub mod Acts
pub mod Entries
pub mod Order
