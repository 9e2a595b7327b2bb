pub mod Ends
pub mod Turning
pub mod Calls
pub mod Acts
