pub mod Stopping
pub mod Ending
pub mod Shifting
pub mod Dividing
pub mod Reaching
pub mod Jumping
