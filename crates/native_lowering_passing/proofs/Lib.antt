pub mod Keeping
pub mod Fetching
pub mod Receiving
pub mod Opening
