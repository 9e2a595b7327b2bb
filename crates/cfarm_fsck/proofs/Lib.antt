pub mod Voters
pub mod Begun
pub mod Accepted
pub mod Opening
pub mod Opened
