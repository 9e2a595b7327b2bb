pub mod Arguments
pub mod Parts
pub mod Reaching
pub mod Turning
