pub mod Entries
pub mod Files
pub mod Lines
pub mod Offers
