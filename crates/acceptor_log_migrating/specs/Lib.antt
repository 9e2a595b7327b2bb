pub mod Turning
pub mod Stands
pub mod Moving
